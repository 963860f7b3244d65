-- Between crates: what a call answers and does at a point, as a value of the code's types. Definitions only.
use Rattle.std.specs.Prelude.{◌≡◌, Bool, true, cond, List, [], ◌∷◌, ℕ, leb}
use Rattle.dates.specs.Dates.{last_day}
use Rattle.rules.specs.declared.{Effect.Effect, Fields.Fields, History.History, Point.Point, Settings.Settings}
use Rattle.rules.specs.declared.{PointAction.PointAction, Span.Span, View.View}
use Rattle.rules.specs.declared.{Due.Due, Pending.Pending, SupplyKind.SupplyKind}
use Rattle.rules.specs.Answers.{is_accepted}
use Rattle.rules.specs.Effects.{fields_of, names, spans_in, effect_of, failed}
use Rattle.rules.specs.Pinned.Register.{due_by, happened, named}
use Rattle.point_volumes.specs.Between.{booked_if_fair}
use Rattle.point_answers.specs.Between.{answer_at}
use Rattle.point_effects.specs.declared.{Ruling.Ruling}

-- Past the calendar's end nothing falls due: no call looks there.
unfoldable pub due_in : Settings → ℕ → SupplyKind → Pending → Due
due_in S t k q = cond (leb t last_day) (due_by S t k q) Due.Nothing

unfoldable pub next_in : Settings → ℕ → Point → Point
next_in S t g = happened (due_in S t g.fields.supply.kind g.fields.supply.pending) g

-- `catch_up`, on the calendar.
unfoldable pub caught_up : Settings → ℕ → Point → Point
caught_up S t g = next_in S t (next_in S t g)

-- The answer, and what an accepted call does; a refused one keeps the fields.
unfoldable pub ruling_at : Settings → ℕ → List Bool → ℕ → ℕ → PointAction → View → Ruling
ruling_at S day u t p a v =
    record {
      answer = answer_at S day u t p a v;
      effect = cond (is_accepted (answer_at S day u t p a v)) (effect_of S t a v.fields) (Effect.Keep v.fields);
    }

-- A call that names a point of fields f is accepted: the checks have seen to its numbers.
pub record Accepted (S : Settings) (t : ℕ) (a : PointAction) (f : Fields) : Type 0 where
  pub day : ℕ
  pub contracts : List Bool
  pub point : ℕ
  pub view : View
  pub same : view.fields ≡ f
  pub ok : is_accepted (answer_at S day contracts t point a view) ≡ true

abbrev pub booked_fair : List Span → History → History
booked_fair [] h = h
booked_fair (s ∷ l) h = booked_fair l (booked_if_fair s h)

-- `entered`, where a reading is fair; no accepted call makes another.
unfoldable pub noted : ℕ → Effect → History → Point
noted d e h =
    record {
      fields = fields_of e;
      history =
          cond (names e) (named d (fields_of e).supply.holder (booked_fair (spans_in e) h)) (booked_fair (spans_in e) h);
    }

unfoldable pub failed_by : Settings → ℕ → ℕ → Fields → Effect
failed_by S t s f = cond (leb t last_day) (failed S t s f) (Effect.Keep f)
