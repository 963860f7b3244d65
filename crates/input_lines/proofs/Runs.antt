-- Laws of runs: a line feed is found or none is left, and an input cut into pieces is run as one.
use Rattle.basics.proofs.Basics.{◌≡◌, refl, ap, List, [], ◌∷◌, ◌++◌, append_assoc, ◌≤◌, ℕ, ◌<◌, suc, not-suc-le-zero}
use Rattle.basics.proofs.Basics.{le_of_suc-le-suc, arith, eqb, length, drop, take, cases}
use Rattle.input_lines.specs.Between.Feeds.{until_feed}
use Rattle.input_lines.specs.Pinned.Lines.{last_line, lines_from, lines_of}
use Rattle.input_lines.specs.Between.Begun.{kept_bytes, capped}
use Rattle.input_lines.specs.Pinned.Machine.{said, after_lines, transcript}
use Rattle.input_lines.specs.Pinned.Runs.{Run, behind, run}
use Rattle.input_lines.proofs.KeptBytes.{capped_front, capped_more, capped_nil, capped_le}

module _ {S : Type 0} (next : S → List ℕ → S) (say : S → List ℕ → List ℕ) where
  -- a line feed is found: the line is answered, and the run goes on behind it
  abbrev pub found : S → List ℕ → List ℕ → ℕ → Run S
  found s part l k = behind (say s (capped (part ++ take k l))) (run next say (next s (capped (part ++ take k l))) [] (drop (suc k) l))

  pub run_found : (s : S) (part l : List ℕ) → length part ≤ kept_bytes → until_feed l < length l →
      run next say s part l ≡ found s part l (until_feed l)
  unfolding run until_feed
  run_found s part [] hp h = absurd (not-suc-le-zero h)
  run_found s part (b ∷ l) hp h = cases (eqb b 10) (λ e. rw (e, capped_nil part hp))
      (λ e. let rest = run_found s (capped (part ++ (b ∷ []))) l (capped_le _) (le_of_suc-le-suc (rw e at h)) in
      rw e (rw (capped_more part b (take (until_feed l) l)) at rest))

  -- none is left: all is kept
  abbrev pub waiting : S → List ℕ → Run S
  waiting s part = record { state = s; part = part; out = [] }

  pub run_none : (s : S) (part l : List ℕ) → length part ≤ kept_bytes → length l ≤ until_feed l →
      run next say s part l ≡ waiting s (capped (part ++ l))
  unfolding run until_feed
  run_none s part [] hp h = rw (capped_nil part hp)
  run_none s part (b ∷ l) hp h = cases (eqb b 10) (λ e. absurd (not-suc-le-zero (rw e at h)))
      (λ e. rw e (rw (capped_more part b l) at (run_none s (capped (part ++ (b ∷ []))) l (capped_le _) (le_of_suc-le-suc (rw e at h)))))

  -- what is kept is never longer than kept_bytes
  pub run_part_le : (s : S) (part l : List ℕ) → length part ≤ kept_bytes → length (run next say s part l).part ≤ kept_bytes
  unfolding run
  run_part_le s part [] hp = hp
  run_part_le s part (b ∷ l) hp = cases (eqb b 10) (λ e. rw e (run_part_le (next s part) [] l (omega arith)))
      (λ e. rw e (run_part_le s (capped (part ++ (b ∷ []))) l (capped_le _)))

  -- the run of a ++ b goes on where that of a stopped
  abbrev pub then : Run S → List ℕ → Run S
  then r b = behind r.out (run next say r.state r.part b)

  pub run_append : (s : S) (part a b : List ℕ) → run next say s part (a ++ b) ≡ then (run next say s part a) b
  unfolding run
  run_append s part [] b = refl
  run_append s part (x ∷ a) b = cases (eqb x 10) (λ e. rw (e, run_append (next s part) [] a b, append_assoc))
      (λ e. rw e (run_append s (capped (part ++ (x ∷ []))) a b))

  -- ---- the end of the input

  -- what is said of the line that the end of the input ends, and the state after it
  abbrev pub last_said : Run S → List ℕ
  last_said r = r.out ++ said next say r.state (last_line r.part)

  abbrev pub last_state : Run S → S
  last_state r = after_lines next say r.state (last_line r.part)

  module _ (say_capped : (s : S) (l : List ℕ) → say s (capped l) ≡ say s l)
      (next_capped : (s : S) (l : List ℕ) → next s (capped l) ≡ next s l) where
    abbrev both : Run S → List ℕ → S → List (List ℕ) → Type 0
    both r o s ls = (o ++ last_said r ≡ o ++ said next say s ls) × (last_state r ≡ after_lines next say s ls)

    end_lines : (s : S) (full : List ℕ) → both (waiting s (capped full)) [] s (last_line full)
    unfolding said after_lines capped
    end_lines s [] = (refl, refl)
    end_lines s (b ∷ l) = (ap (λ (o : List ℕ). o ++ []) (say_capped s (b ∷ l)), next_capped s (b ∷ l))

    pub run_lines : (s : S) (full input : List ℕ) →
        (last_said (run next say s (capped full) input) ≡ said next say s (lines_from full input))
        × (last_state (run next say s (capped full) input) ≡ after_lines next say s (lines_from full input))
    unfolding run lines_from said after_lines capped
    run_lines s full [] = end_lines s full
    run_lines s full (b ∷ l) = cases (eqb b 10)
        (λ e. let i = run_lines (next s full) [] l in rw (e, say_capped s full, next_capped s full)
        (rw append_assoc (ap (◌++◌ (say s full)) i.0), i.1))
        (λ e. rw (e, capped_front full (b ∷ [])) (run_lines s (full ++ (b ∷ [])) l))

    -- however an input is cut, its run ends with the answers to its lines, and in the state after them
    pub run_transcript : (close : S → List ℕ) (s : S) (input : List ℕ) →
        last_said (run next say s [] input) ++ close (last_state (run next say s [] input)) ≡ transcript next say close s input
    unfolding transcript lines_of capped
    run_transcript close s input = let w = run_lines s [] input in rw (w.0, w.1)
