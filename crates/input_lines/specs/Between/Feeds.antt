-- Where a line ends, and how many lines fit. Definitions only.
use Rattle.std.specs.Prelude.{ℕ, zero, suc, cond, List, [], ◌∷◌, eqb}

-- How many bytes stand before the first line feed, or in all where there is none.
unfoldable pub until_feed : List ℕ → ℕ
until_feed [] = 0
until_feed (b ∷ l) = cond (eqb b 10) 0 (suc (until_feed l))

-- How many of the first bytes have no more than n line feeds.
unfoldable pub fitting : ℕ → List ℕ → ℕ
fitting n [] = 0
fitting zero (b ∷ l) = cond (eqb b 10) 0 (suc (fitting zero l))
fitting (suc n) (b ∷ l) = suc (fitting (cond (eqb b 10) n (suc n)) l)
