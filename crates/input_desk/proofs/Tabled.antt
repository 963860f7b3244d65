-- Every answer is one of document 01's table.
use Rattle.rules.specs.declared.{Rejection.Rejection}
use Rattle.basics.proofs.Basics.{◌≡◌, refl, true, false, Bool, cond, ◌&&◌, false≢true, ◌||◌, List, [], ◌∷◌, ℕ, ◌<◌}
use Rattle.basics.proofs.Basics.{arith, eqb, leb, leb-true, eqb-true}
use Rattle.rules.specs.declared.{Settings.Settings, SupplyKind.SupplyKind, Opening.Opening, Register.Register}
use Rattle.rules.specs.declared.{Call.Call, View.View, Action.Action, PointAction.PointAction, Answer.Answer}
use Rattle.rules.specs.Answers.{number, number_of}
use Rattle.rules.specs.Rejections.{
  Row,
  ◌⇒◌,
  first_of,
  last_resort_near,
  rows_at,
  rows,
  accepted,
  answer_to,
  answer,
  opening_answer,
}
use Rattle.rules.specs.Effects.{accepted_by, effect_of}
use Rattle.rules.specs.Pinned.Register.{says, applied}
use Rattle.line_messages.specs.declared.{Message.Message}
use Rattle.input_desk.specs.Pinned.Desk.{unreadable, answer_of}
use Rattle.input_desk.specs.Table.{is_number, is_tabled, EveryAnswerTabled}

-- a row more
row : (b : Bool) (n : Rejection) (rs : List Row) (a : Answer) → is_tabled (Answer.Refused n) ≡ true → is_tabled (first_of rs a) ≡ true →
    is_tabled (first_of ((b ⇒ n) ∷ rs) a) ≡ true
unfolding first_of
row true n rs a h k = h
row false n rs a h k = k

-- the row of number 8 carries its day where it applies
row_8 : (S : Settings) (t : ℕ) (kind : SupplyKind) (rs : List Row) (a : Answer) → is_tabled (first_of rs a) ≡ true →
    is_tabled (first_of (last_resort_near S t kind ∷ rs) a) ≡ true
unfolding first_of
row_8 S t SupplyKind.None rs a k = k
row_8 S t SupplyKind.Contract rs a k = k
row_8 S t (SupplyKind.LastResort d) rs a k = k
row_8 S t (SupplyKind.Default d) rs a k = go (last_resort_near S t (SupplyKind.Default d)).applies
  where
    go : (b : Bool) → is_tabled (cond b (Answer.Refused (Rejection.LastResortUnderWay d)) (first_of rs a)) ≡ true
    go true = refl
    go false = k

-- 22, 20 and 21
dated : (a b c : Bool) (rs : List Row) (x : Answer) → is_tabled (first_of rs x) ≡ true →
    is_tabled (first_of ((a ⇒ Rejection.FieldOutOfRange) ∷ (b ⇒ Rejection.OffTheCalendar) ∷ (c ⇒ Rejection.DayRunsBack) ∷ rs) x) ≡ true
dated a b c rs x h = row a _ _ x refl (row b _ _ x refl (row c _ rs x refl h))

-- 40 between them, where a meter is brought
fitting : (a f b c : Bool) (rs : List Row) (x : Answer) → is_tabled (first_of rs x) ≡ true →
    is_tabled (first_of ((a ⇒ Rejection.FieldOutOfRange) ∷ (f ⇒ Rejection.FactorOutOfRange) ∷ (b ⇒ Rejection.OffTheCalendar) ∷ (c ⇒ Rejection.DayRunsBack) ∷ rs) x) ≡ true
fitting a f b c rs x h = row a _ _ x refl (row f _ _ x refl (row b _ _ x refl (row c _ rs x refl h)))

last : (a : Answer) → is_tabled a ≡ true → is_tabled (first_of [] a) ≡ true
unfolding first_of
last a h = h

module _ (S : Settings) (day : ℕ) (u : List Bool) (t : ℕ) where
  rows_at_lem : (p : ℕ) (a : PointAction) (v : View) → is_tabled (first_of (rows_at S day u t p a v) (accepted_by (effect_of S t a v.fields))) ≡ true
  unfolding rows_at effect_of
  rows_at_lem p (PointAction.Enrol m) v = fitting _ _ _ _ _ _ (row _ _ _ _ refl (row _ _ _ _ refl (row _ _ _ _ refl (last _ refl))))
  rows_at_lem p (PointAction.IntoService s k) v =
      dated _ _ _ _ _ (row _ _ _ _ refl (row _ _ _ _ refl (row _ _ _ _ refl (row _ _ _ _ refl (last _ refl)))))
  rows_at_lem p (PointAction.DefaultSupply k) v = dated _ _ _ _ _ (row _ _ _ _ refl (row _ _ _ _ refl (row _ _ _ _ refl (last _ refl))))
  rows_at_lem p (PointAction.Request s k r) v = dated _ _ _ _ _ (row _ _ _ _ refl (row _ _ _ _ refl (row _ _ _ _ refl
      (row _ _ _ _ refl (row _ _ _ _ refl (row _ _ _ _ refl
      (row _ _ _ _ refl (row_8 S t v.fields.supply.kind _ _ (row _ _ _ _ refl (last _ refl))))))))))
  rows_at_lem p (PointAction.Cancel s) v = dated _ _ _ _ _ (row _ _ _ _ refl (row _ _ _ _ refl (row _ _ _ _ refl (last _ refl))))
  rows_at_lem p (PointAction.Reading d x z) v = dated _ _ _ _ _ (row _ _ _ _ refl (row _ _ _ _ refl (row _ _ _ _ refl (last _ refl))))
  rows_at_lem p (PointAction.MeterChange x z m) v = fitting _ _ _ _ _ _ (row _ _ _ _ refl (row _ _ _ _ refl (row _ _ _ _ refl (last _ refl))))
  rows_at_lem p PointAction.OutOfService v =
      row _ _ _ _ refl (row _ _ _ _ refl (row _ _ _ _ refl (row _ _ _ _ refl (row _ _ _ _ refl (last _ refl)))))
  rows_at_lem p (PointAction.Suspend m) v = dated _ _ _ _ _ (row _ _ _ _ refl (last _ refl))

  rows_of : (a : Action) (v : ℕ → View) → is_tabled (first_of (rows S day u t a v) (accepted S t a v)) ≡ true
  unfolding rows accepted
  rows_of (Action.Contract s) v = dated _ _ _ _ _ (last _ refl)
  rows_of (Action.Failure s) v = dated _ _ _ _ _ (row _ _ _ _ refl (row _ _ _ _ refl (row _ _ _ _ refl (last _ refl))))
  rows_of (Action.At p a) v = rows_at_lem p a (v p)
  rows_of Action.Day v = row _ _ _ _ refl (row _ _ _ _ refl (last _ refl))

call_tabled : (r : Register) (c : Call) → is_tabled (says r c) ≡ true
unfolding says answer answer_to
call_tabled r c = rows_of r.settings r.day r.contracts c.today c.action _

opening_tabled : (o : Opening) → is_tabled (opening_answer o) ≡ true
unfolding opening_answer
opening_tabled o = row _ _ _ _ refl (row _ _ _ _ refl (row _ _ _ _ refl
    (row _ _ _ _ refl (row _ _ _ _ refl (row _ _ _ _ refl (row _ _ _ _ refl (last _ refl)))))))

pub every_answer_tabled : EveryAnswerTabled
unfolding answer_of applied
every_answer_tabled d (Message.Open o) = go d.ready
  where
    go : (b : Bool) → is_tabled (cond b unreadable (opening_answer o)) ≡ true
    go true = refl
    go false = opening_tabled o
every_answer_tabled d (Message.Ask c) = go d.ready
  where
    go : (b : Bool) → is_tabled (cond b (says d.register c) unreadable) ≡ true
    go true = call_tabled d.register c
    go false = refl
every_answer_tabled d Message.Unreadable = refl

-- so its number has two digits at the most
and_left : (x y : Bool) → (x && y) ≡ true → x ≡ true
and_left true y e = refl
and_left false y e = absurd (false≢true e)

and_right : (x y : Bool) → (x && y) ≡ true → y ≡ true
and_right true y e = e
and_right false y e = absurd (false≢true e)

-- a number that is in one of two ranges is small where each is
either : {n : ℕ} (x y : Bool) → (x ≡ true → n < 100) → (y ≡ true → n < 100) → (x || y) ≡ true → n < 100
either true y f g h = f refl
either false y f g h = g h

number_small : (n : ℕ) → is_number n ≡ true → n < 100
number_small n h = either _ (eqb n 40) (either (leb 1 n && leb n 8) (leb 20 n && leb n 31)
    (λ e. omega (arith, leb-true n 8 (and_right (leb 1 n) (leb n 8) e)))
    (λ e. omega (arith, leb-true n 31 (and_right (leb 20 n) (leb n 31) e)))) (λ e. omega (arith, eqb-true n 40 e)) h

pub tabled_small : (a : Answer) → is_tabled a ≡ true → number a < 100
tabled_small Answer.Accepted h = omega arith
tabled_small (Answer.AcceptedOn e) h = omega arith
tabled_small (Answer.Refused r) h = number_small (number_of r) (and_left (is_number (number_of r)) _ h)
