-- 02, F-1: what the holder question finds and reports, said without the search. Definitions only: proofs/Latest proves
-- the statement.
--
-- walked      the holder that a walk over all periods finds
-- later_than  how many starts lie after a day
-- probes_for  the number that is reported
use Rattle.std.specs.Prelude.{◌≡◌, ℕ, suc, ◌+◌, ◌<◌, ◌≤◌, true, cond, List, [], ◌∷◌, map, length, take, nat_le, nat_lt, slice_index_or}
use Rattle.std.proofs.Math.Option.{Option, none, some}
use Rattle.rules.specs.declared.{Period.Period, History.History, Opening.Opening, Call.Call}
use Rattle.rules.specs.Answers.{is_accepted}
use Rattle.rules.specs.Rejections.{opening_answer}
use Rattle.rules.specs.Pinned.Register.{no_period, used, newest, point_at}
use Rattle.rules.specs.Periods.{register}
use Rattle.questions.specs.Pinned.Questions.{holder_in, holder_told}

-- "The holder is the one that a walk over all periods finds." The oldest first: each that starts on or before the day
-- takes the place of the one found before it.
unfoldable pub walked : ℕ → Option ℕ → List Period → Option ℕ
walked d z [] = z
walked d z (q ∷ qs) = walked d (cond (nat_le q.start d) (some q.holder) z) qs

-- "the count of periods starting after the day"
unfoldable pub later_than : ℕ → List ℕ → ℕ
later_than d [] = 0
later_than d (s ∷ ss) = cond (nat_lt d s) (suc (later_than d ss)) (later_than d ss)

-- "That number is the count of periods starting after the day, plus one; a refusal reports 0."
abbrev pub probes_for : Option ℕ → ℕ → ℕ
probes_for none n = 0
probes_for (some h) n = n + 1

-- The periods that count, and their starts, oldest first.
abbrev pub counted : History → List Period
counted h = take (used h) h.periods

abbrev pub starts_in : History → List ℕ
starts_in h = map (λ (q : Period). q.start) (counted h)

-- Of two periods the later one starts on a later day.
abbrev pub Rising : History → Type 0
Rising h = (i j : ℕ) → i < j → j < used h → (slice_index_or h.periods i no_period).start < (slice_index_or h.periods j no_period).start

-- The search, where the starts rise.
pub record Searched (d : ℕ) (h : History) : Type 0 where
  pub holder : holder_told (holder_in d h) ≡ walked d none (counted h)
  pub probes : (holder_in d h).probes ≡ probes_for (walked d none (counted h)) (later_than d (starts_in h))

pub record LatestFirst : Type 0 where
  pub search : (d : ℕ) (h : History) → 24 ≤ length h.periods → Rising h → Searched d h
  -- "Fitters mostly want a recent day's holder": one look, however long the history
  pub recent : (d : ℕ) (h : History) → 0 < used h → (newest h).start ≤ d → (holder_in d h).probes ≡ 1
  -- the starts rise on every register that calls reach
  pub rising : (o : Opening) → is_accepted (opening_answer o) ≡ true → (calls : List Call) (p : ℕ) → 1 ≤ p → p ≤ 32
      → Rising (point_at p (register o calls).points).history
