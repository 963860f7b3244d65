-- The lines of an input have no line feed, and with theirs they are the input again.
use Rattle.basics.proofs.Basics.{◌≡◌, refl, ◌∙◌, ap, true, false, Bool, cond, List, [], ◌∷◌, ◌++◌, append_assoc, ℕ}
use Rattle.basics.proofs.Basics.{not-suc-le-zero, arith, eqb, eqb-true, cases}
use Rattle.input_lines.specs.Lines.{feeds, unlines, ends_within}
use Rattle.input_lines.specs.Pinned.Lines.{last_line, lines_from, lines_of}
use Rattle.input_lines.specs.Laws.{Clear, none, one, LinesAre}

abbrev is_some : List ℕ → Bool
is_some [] = false
is_some (b ∷ l) = true

some_snoc : (x : List ℕ) (b : ℕ) → is_some (x ++ (b ∷ [])) ≡ true
some_snoc [] b = refl
some_snoc (c ∷ x) b = refl

abbrev ending : Bool → List ℕ
ending t = cond t (10 ∷ []) []

last_back : (x : List ℕ) → unlines (last_line x) ≡ x ++ ending (is_some x)
unfolding unlines
last_back [] = refl
last_back (b ∷ x) = refl

back : (x l : List ℕ) → unlines (lines_from x l) ≡ x ++ (l ++ ending (ends_within (is_some x) l))
unfolding lines_from ends_within unlines
back x [] = last_back x
back x (b ∷ l) = cases (eqb b 10) (λ e. rw e (ap (λ (r : List ℕ). x ++ (10 ∷ r)) (back [] l) ∙ rw (← eqb-true b 10 e)))
    (λ e. rw (e, back (x ++ (b ∷ [])) l, some_snoc x b) (append_assoc x (b ∷ []) (l ++ ending (ends_within true l))))

feeds_snoc : (x : List ℕ) (b : ℕ) → feeds x ≡ 0 → eqb b 10 ≡ false → feeds (x ++ (b ∷ [])) ≡ 0
unfolding feeds
feeds_snoc [] b h e = rw e
feeds_snoc (c ∷ x) b h e = cases (eqb c 10) (λ f. absurd (let z = rw f at h in not-suc-le-zero {n = feeds x} (omega arith)))
    (λ f. rw f (feeds_snoc x b (rw f at h) e))

clear_last : (x : List ℕ) → feeds x ≡ 0 → Clear (last_line x)
clear_last [] h = none
clear_last (b ∷ x) h = one h none

clear : (x l : List ℕ) → feeds x ≡ 0 → Clear (lines_from x l)
unfolding lines_from feeds
clear x [] h = clear_last x h
clear x (b ∷ l) h = cases (eqb b 10) (λ e. rw e (one h (clear [] l refl)))
    (λ e. rw e (clear (x ++ (b ∷ [])) l (feeds_snoc x b h e)))

pub lines_are : (input : List ℕ) → LinesAre input
unfolding lines_of feeds
lines_are input = record { clear = clear [] input refl; back = back [] input }
