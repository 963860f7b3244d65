-- Rows asked one after the other give the first that applies.
use Rattle.basics.proofs.Basics.{◌≡◌, refl, sym, ◌∙◌, true, false, Bool, cond, ◌&&◌, false≢true, List, []}
use Rattle.basics.proofs.Basics.{◌∷◌, ◌++◌}
use Rattle.rules.specs.declared.{Answer.Answer}
use Rattle.rules.specs.Answers.{is_accepted}
use Rattle.rules.specs.Rejections.{Row, first_of}
use Rattle.point_answers.specs.Between.{after}

-- no row accepts
unfoldable pub all_refuse : List Row → Bool
all_refuse [] = true
all_refuse (r ∷ rs) = cond (is_accepted r.gives) false (all_refuse rs)

-- One row more at the end.
pub last_row : (rs : List Row) (r : Row) (a : Answer) → is_accepted a ≡ true → all_refuse rs ≡ true
    → first_of (rs ++ r ∷ []) a ≡ after (first_of rs a) r
unfolding first_of after all_refuse
last_row [] r a ok all = rw ok
last_row (q ∷ rs) r a ok all = go q.applies (is_accepted q.gives) refl all (last_row rs r a ok)
  where
    go : (b x : Bool) → is_accepted q.gives ≡ x → cond x false (all_refuse rs) ≡ true → (all_refuse rs ≡ true
        → first_of (rs ++ r ∷ []) a ≡ cond (is_accepted (first_of rs a) && r.applies) r.gives (first_of rs a))
        → cond b q.gives (first_of (rs ++ r ∷ []) a)
        ≡ cond (is_accepted (cond b q.gives (first_of rs a)) && r.applies) r.gives (cond b q.gives (first_of rs a))
    go true false e h rest = rw e
    go false false e h rest = rest h
    go true true e h rest = cc
    go false true e h rest = cc

-- Where rows that refuse let a call through, its answer is the one that they were handed.
pub kept_first : (rs : List Row) (a : Answer) → all_refuse rs ≡ true → is_accepted (first_of rs a) ≡ true → first_of rs a ≡ a
unfolding first_of all_refuse
kept_first [] a all ok = refl
kept_first (r ∷ rs) a all ok = go r.applies (is_accepted r.gives) refl all ok (kept_first rs a)
  where
    go : (b x : Bool) → is_accepted r.gives ≡ x → cond x false (all_refuse rs) ≡ true
        → is_accepted (cond b r.gives (first_of rs a)) ≡ true
        → (all_refuse rs ≡ true → is_accepted (first_of rs a) ≡ true → first_of rs a ≡ a) → cond b r.gives (first_of rs a) ≡ a
    go true false e h k f = absurd (false≢true (sym e ∙ k))
    go false false e h k f = f h k
    go b true e h k f = absurd (false≢true h)
