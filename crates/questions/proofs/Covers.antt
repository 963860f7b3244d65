-- The walk over a point's periods finds the one that the day lies in, and their sum does not wrap.
use Rattle.basics.proofs.Basics.{◌≡◌, refl, sym, ◌∙◌, ap, true, ◌&&◌, some, Option, none, List, [], ◌∷◌, ◌++◌}
use Rattle.basics.proofs.Basics.{append-nil, map, ◌≤◌, ℕ, ◌+◌, ◌<◌, suc, zero, ◌^◌, mod-eq_of_lt, dec_le, arith, leb}
use Rattle.basics.proofs.Basics.{length, take, get_or, take-suc, append_snoc, lt-ltb, le-leb, lt-leb, cases}
use Rattle.rules.specs.declared.{Period.Period}
use Rattle.questions.specs.declared.{HolderAnswer.HolderAnswer}
use Rattle.questions.specs.Pinned.Questions.{holder_number, holder_told}
use Rattle.rules.specs.Pinned.Register.{no_period}
use Rattle.questions.specs.Pinned.Questions.{refused_holder, holder_among, sum_of}
use Rattle.rules.specs.Periods.{covering, is_before_next}
use Rattle.agreement.specs.Sound.{Side, wheels, volume_on}
use Rattle.agreement.proofs.Tally.{sum_volumes, oldest, Desc, desc_up, oldest_le}
use Rattle.agreement.proofs.Slots.{recent}

abbrev holders : List Period → List (Option ℕ)
holders ps = map (λ (q : Period). some q.holder) ps

last_of : Option ℕ → List (Option ℕ) → Option ℕ
last_of z [] = z
last_of z (h ∷ hs) = last_of h hs

module _ (d : ℕ) where
  -- Day d lies before the periods l.
  abbrev Ahead : List Period → Type 0
  Ahead l = (is_before_next d l ≡ true) × (covering d l ≡ [])

  ahead_cons : (q : Period) (l : List Period) → d < q.start → Ahead l → Ahead (q ∷ l)
  unfolding covering
  ahead_cons q l lt k = (lt-ltb d q.start lt, rw (lt-leb q.start d lt) k.1)

  -- the last period that has begun by day d is the last that the day lies in
  last_covers : (xs l : List Period) (q : Period) (z : Option ℕ) → q.start ≤ d → Ahead l
      → last_of z (holders (covering d (xs ++ q ∷ l))) ≡ some q.holder
  unfolding covering last_of
  last_covers [] l q z le k = rw (le-leb q.start d le, k.0, k.1)
  last_covers (x ∷ xs) l q z le k = cases (leb x.start d && is_before_next d (xs ++ q ∷ l))
      (λ e. rw e (last_covers xs l q (some x.holder) le k)) (λ e. rw e (last_covers xs l q z le k))

  -- an answer that tells this, and is not refused
  abbrev pub Tells : HolderAnswer → Option ℕ → Type 0
  Tells a x = (holder_told a ≡ x) × (holder_number a ≡ 0)

  among_covers : (k n : ℕ) (ps l : List Period) (x : Option ℕ) → n ≤ length ps → Ahead l
      → holders (covering d (take n ps ++ l)) ≡ x ∷ [] → Tells (holder_among d k n ps) x
  unfolding holder_among last_of
  among_covers k zero ps l x le a q =
      let z : [] ≡ x ∷ [] = sym (ap holders a.1) ∙ q in let w : ◌≡◌ {A = ℕ} 0 1 = cc z in absurd (omega arith)
  among_covers k (suc n) ps l x le a q = let p : Period = get_or ps n no_period in
      let r : holders (covering d (take n ps ++ p ∷ l)) ≡ x ∷ [] =
      rw (take-suc ps n no_period le, append_snoc (take n ps) p l) at q in elim (dec_le p.start d) [
        | yes y ↦ rw (le-leb _ _ y) (sym (last_covers (take n ps) l p none y a) ∙ ap (last_of none) r, refl)
        | no y ↦ rw (lt-leb p.start d (omega arith))
            (among_covers (k + 1) n ps (p ∷ l) x (omega arith) (ahead_cons p l (omega arith) a) r)
      ]

  pub among_covered : (k n : ℕ) (ps : List Period) (x : Option ℕ) → n ≤ length ps → holders (covering d (take n ps)) ≡ x ∷ []
      → Tells (holder_among d k n ps) x
  unfolding covering
  among_covered k n ps x le q = among_covers k n ps [] x le (refl, refl) (rw (append-nil (take n ps)) q)

  -- where the oldest period begins after day d, all do
  pub among_before : (k n : ℕ) (ps : List Period) (e : ℕ) → Desc e (recent wheels n ps) → d < oldest (recent wheels n ps) e
      → holder_among d k n ps ≡ refused_holder
  unfolding holder_among recent oldest
  among_before k zero ps e r o = refl
  among_before k (suc n) ps e r o = let p : Period = get_or ps n no_period in
      let w = oldest_le p.start (recent wheels n ps) (desc_up (recent wheels n ps) (omega arith) r.1) in
      rw (lt-leb p.start d (omega (arith, o, w))) (among_before (k + 1) n ps p.start r.1 o)

pub sum_exact : (x : Side) (n : ℕ) (ps : List Period) → sum_volumes (recent x n ps) < 2 ^ 64
    → sum_of (volume_on x) n ps ≡ sum_volumes (recent x n ps)
unfolding sum_of recent sum_volumes
sum_exact x zero ps fits = refl
sum_exact x (suc n) ps fits = rw (sum_exact x n ps (omega arith)) (mod-eq_of_lt (omega arith) ∙ omega arith)
