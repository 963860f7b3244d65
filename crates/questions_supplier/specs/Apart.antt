-- 02, F-6: neither supplier sees the other's half. Said of any two registers, not only of those that calls reach.
-- proofs/Apart.antt proves the statement. Definitions only.
--
-- Agree        two registers agree on all that supplier s may see of point p
-- Alike        what must be alike for that; nothing else is looked at
-- Unseen       what may be changed of a register without changing it
-- HalvesApart  the statement
use Rattle.std.specs.Prelude.{◌≡◌, Bool, false, cond, List, ◌∷◌, ◌++◌, map, ℕ, ◌-◌, ◌≤◌, eqb, set}
use Rattle.rules.specs.declared.{Period.Period, History.History, Fields.Fields, Point.Point, Register.Register}
use Rattle.rules.specs.declared.{Settings.Settings, Pending.Pending, Action.Action, PointAction.PointAction}
use Rattle.rules.specs.Fields.{with_key, with_mark, with_pending}
use Rattle.rules.specs.Rejections.{not_supplier}
use Rattle.rules.specs.Pinned.Register.{period, history, register, point_at, applied, on}
use Rattle.questions.specs.Latest.{counted}
use Rattle.questions.specs.Seen.{without_pending, only_day}
use Rattle.questions_supplier.specs.Pinned.Own.{own_periods, own_answer}

-- "Two registers that agree on all this for that supplier and point": on the list of that supplier's periods there, each
-- with its start, its end if any, and both volumes.
abbrev pub Agree : ℕ → ℕ → Register → Register → Type 0
Agree s p r r' = own_periods r s p ≡ own_periods r' s p

abbrev pub fields_at : ℕ → Register → Fields
fields_at p r = (point_at p r.points).fields

abbrev pub history_at : ℕ → Register → History
history_at p r = (point_at p r.points).history

-- What a period can come to for supplier s: all of it where s holds it, else its start.
pub data Shown : Type 0 where
  whole : Period → Shown
  start : ℕ → Shown

abbrev pub shown_to : ℕ → Period → Shown
shown_to s q = cond (eqb q.holder s) (whole q) (start q.start)

-- Nothing is asked of the settings, the register's day, the contracts and the other points; of the point's fields no
-- more than whether it is enrolled; of another's period no more than its start.
pub record Alike (s p : ℕ) (r r' : Register) : Type 0 where
  pub enrolled : (fields_at p r).enrolled ≡ (fields_at p r').enrolled
  pub periods : map (shown_to s) (counted (history_at p r)) ≡ map (shown_to s) (counted (history_at p r'))

-- Not even how many others came one after the other: x follows upon q, both are others', and x alone is gone.
pub record Joined (s p : ℕ) (r r' : Register) : Type 0 where
  pub enrolled : (fields_at p r).enrolled ≡ (fields_at p r').enrolled
  pub older : List Period
  pub newer : List Period
  pub q : Period
  pub x : Period
  pub others : (eqb q.holder s ≡ false) × (eqb x.holder s ≡ false)
  pub both : counted (history_at p r) ≡ older ++ q ∷ x ∷ newer
  pub one : counted (history_at p r') ≡ older ++ q ∷ newer

-- A register with another point p; with other fields there; with every period there that s does not hold made another.
abbrev pub with_point : ℕ → Point → Register → Register
with_point p g r = register r.settings r.day r.contracts (set r.points (p - 1) g)

abbrev pub with_fields : ℕ → Fields → Register → Register
with_fields p f r = with_point p (record { fields = f; history = history_at p r }) r

abbrev pub if_other : ℕ → (Period → Period) → Period → Period
if_other s f q = cond (eqb q.holder s) q (f q)

abbrev pub with_others : ℕ → ℕ → (Period → Period) → Register → Register
with_others s p f r =
    with_point p
    (record {
      fields = fields_at p r;
      history = history (history_at p r).count (map (if_other s f) (history_at p r).periods);
    })
    r

-- "whoever else's periods, keys or pending requests differ"
pub record Unseen (r : Register) (s p : ℕ) : Type 0 where
  pub settings : (S : Settings) → Agree s p (register S r.day r.contracts r.points) r
  pub day : (d : ℕ) → Agree s p (register r.settings d r.contracts r.points) r
  pub contracts : (u : List Bool) → Agree s p (register r.settings r.day u r.points) r
  pub other_point : (q : ℕ) (g : Point) → 1 ≤ q → (q ≡ p → ⊥) → Agree s p (with_point q g r) r
  pub key : (k : ℕ) → Agree s p (with_fields p (with_key (fields_at p r) k) r) r
  pub mark : (m : ℕ) → Agree s p (with_fields p (with_mark (fields_at p r) m) r) r
  pub pending : (q : Pending) → Agree s p (with_fields p (with_pending (fields_at p r) q) r) r
  -- and every other field of the point, but that it is enrolled
  pub fields : (f : Fields) → f.enrolled ≡ (fields_at p r).enrolled → Agree s p (with_fields p f r) r
  -- other suppliers' volumes
  pub volumes : (v n : Period → ℕ) → Agree s p (with_others s p (λ q. period q.start q.holder (v q) (n q)) r) r
  -- which other suppliers they are
  pub holders : (h : Period → ℕ) → ((q : Period) → eqb (h q) s ≡ false)
      → Agree s p (with_others s p (λ q. period q.start (h q) q.volume.0 q.normal.0) r) r

-- No pending request is seen through a view either, and a request or its cancel, on whatever day, changes none that the
-- day itself does not change.
pub record RequestsUnseen (s p : ℕ) : Type 0 where
  pub pending : (r r' : Register) → without_pending r ≡ without_pending r' → Agree s p r r'
  pub request : (r : Register) (t q v k d : ℕ)
      → Agree s p (applied r (on t (Action.At q (PointAction.Request v k d)))).register
      (only_day r t (Action.At q (PointAction.Request v k d)))
  pub cancel : (r : Register) (t q v : ℕ)
      → Agree s p (applied r (on t (Action.At q (PointAction.Cancel v)))).register
      (only_day r t (Action.At q (PointAction.Cancel v)))

pub record HalvesApart : Type 0 where
  -- "give it equal answers", for every n
  pub answers : (r r' : Register) (s p : ℕ) → Agree s p r r' → (n : ℕ) → own_answer r s p n ≡ own_answer r' s p n
  -- the list is no more than what the answers tell
  pub told : (r r' : Register) (s p : ℕ) → not_supplier s ≡ false
      → ((n : ℕ) → own_answer r s p n ≡ own_answer r' s p n) → Agree s p r r'
  -- what the two need not have alike, all at once, and one by one
  pub alike : (r r' : Register) (s p : ℕ) → Alike s p r r' → Agree s p r r'
  pub joined : (r r' : Register) (s p : ℕ) → Joined s p r r' → Agree s p r r'
  pub unseen : (r : Register) (s p : ℕ) → Unseen r s p
  pub requests : (s p : ℕ) → RequestsUnseen s p
