-- What messages say and what kinds with values say are inverse: kind by kind, and call by call.
use Rattle.basics.proofs.Basics.{◌≡◌, refl, ap, fun_ext, List, ◌++◌, ℕ, replicate}
use Rattle.rules.specs.declared.{Action.Action, PointAction.PointAction}
use Rattle.line_fields.specs.Between.Shapes.{fields_from, fields_as, values_in}
use Rattle.line_fields.proofs.FieldTexts.{get_d_zeros}
use Rattle.line_kinds.specs.declared.{Kind.Kind}
use Rattle.line_kinds.specs.Kinds.{shape_of}
use Rattle.line_messages.specs.declared.{Message.Message}
use Rattle.line_messages.specs.Lines.{said, line, said_on}
use Rattle.line_messages.specs.Pinned.Messages.{ask, message_by, message_of}

-- what a kind with values says has that kind and these values
pub says : (k : Kind) (v : List ℕ) → said (message_of k v) ≡ line k (fields_as (shape_of k) v)
unfolding fields_from
says Kind.Set v = refl
says Kind.Ctr v = refl
says Kind.Def v = refl
says Kind.Enr v = refl
says Kind.Demmespc v = refl
says Kind.I v = refl
says Kind.Demcf v = refl
says Kind.Adc v = refl
says Kind.Ri v = refl
says Kind.Cdt v = refl
says Kind.Demmhs v = refl
says Kind.Sus v = refl
says Kind.Jour v = refl
says Kind.Unknown v = refl

-- a message is what its kind and its values say
call_back : (t : ℕ) (a : Action) → message_of (said_on t a).kind (values_in (said_on t a).fields) ≡ ask t a
call_back t (Action.Contract s) = refl
call_back t (Action.Failure s) = refl
call_back t Action.Day = refl
call_back t (Action.At p (PointAction.Enrol m)) = refl
call_back t (Action.At p (PointAction.IntoService s k)) = refl
call_back t (Action.At p (PointAction.DefaultSupply k)) = refl
call_back t (Action.At p (PointAction.Request s k r)) = refl
call_back t (Action.At p (PointAction.Cancel s)) = refl
call_back t (Action.At p (PointAction.Reading d x z)) = refl
call_back t (Action.At p (PointAction.MeterChange x z m)) = refl
call_back t (Action.At p PointAction.OutOfService) = refl
call_back t (Action.At p (PointAction.Suspend m)) = refl

pub said_back : (m : Message) → message_of (said m).kind (values_in (said m).fields) ≡ m
said_back (Message.Open o) = refl
said_back (Message.Ask c) = call_back c.today c.action
said_back Message.Unreadable = refl

-- zeros behind the values say nothing
pub message_zeros : (k : Kind) (vs : List ℕ) (n : ℕ) → message_of k (vs ++ replicate n 0) ≡ message_of k vs
message_zeros k vs n = ap (message_by k) (fun_ext (λ i. get_d_zeros vs n i))
