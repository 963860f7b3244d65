-- What each arm leaves behind.
use Rattle.basics.proofs.Basics.{refl, sym, ◌∙◌, arith}
use Rattle.input_pieces.proofs.Leaves.{state_of, heard, told_by, deed_in}
use Rattle.input_pieces.proofs.Leaves.{daily_next, refused_next, slot_next, back_next, sign_next}
use Rattle.input_pieces.proofs.Leaves.{pass_next, fail_next}
use Rattle.input_pieces.proofs.Session.answer.Goals as goal

pub returns-in-Some : goal.returns-in-Some
returns-in-Some c = let z = state_of c.args.self.now c.args.quiet.now in let i = c.place_of-i in
    let k = c.newest_place-k in let r = c.requires in let m = c.args.m in
    told_by (daily_next z r.sized r.due m i.result i.ensures.0 i.ensures.1 k.result k.ensures (sym c.in-Some.is ∙ c.daily_of.ensures)) refl

pub returns-then-not-is_accepted : goal.returns-then-not-is_accepted
returns-then-not-is_accepted c = let z = state_of c.args.self.now c.args.quiet.now in let i = c.place_of-i in
    let k = c.newest_place-k in let r = c.requires in let m = c.args.m in
    let told = heard z r.sized r.due m i.result i.ensures.0 i.ensures.1 k.result k.ensures c.answer_of-said.ensures c.settled-answer.ensures in
    told_by (refused_next z r.sized r.due m i.result i.ensures.0 i.ensures.1 k.result k.ensures told (sym c.is_accepted.ensures ∙ c.if-not-is_accepted.true)) refl

pub overflow_add-i-in-Slot : goal.overflow_add-i-in-Slot
overflow_add-i-in-Slot c = omega (arith, c.place_of-i.ensures.1, deed_in _ _ _ _ _ c.in-Slot.is c.deed_of.ensures)

pub offset_bounds-self-i-in-Slot-3 : goal.offset_bounds-self-i-in-Slot-3
offset_bounds-self-i-in-Slot-3 c = omega (arith, c.place_of-i.ensures.1, deed_in _ _ _ _ _ c.in-Slot.is c.deed_of.ensures)

pub bounds-self-i-in-Slot-3 : goal.bounds-self-i-in-Slot-3
bounds-self-i-in-Slot-3 c = omega (arith, c.place_of-i.ensures.1, deed_in _ _ _ _ _ c.in-Slot.is c.deed_of.ensures)

pub bounds-self-supplier : goal.bounds-self-supplier
bounds-self-supplier c = deed_in _ _ _ _ _ c.in-Sign.is c.deed_of.ensures

pub bounds-self-supplier-in-Fail : goal.bounds-self-supplier-in-Fail
bounds-self-supplier-in-Fail c = deed_in _ _ _ _ _ c.in-Fail.is c.deed_of.ensures

pub returns-in-Slot : goal.returns-in-Slot
returns-in-Slot c = let z = state_of c.args.self.now c.args.quiet.now in let i = c.place_of-i in
    let k = c.newest_place-k in let r = c.requires in let m = c.args.m in
    let told = heard z r.sized r.due m i.result i.ensures.0 i.ensures.1 k.result k.ensures c.answer_of-said.ensures c.settled-answer.ensures in
    told_by (slot_next z r.sized r.due m i.result i.ensures.0 i.ensures.1 k.result k.ensures told (sym c.is_accepted.ensures ∙ c.if-not-is_accepted.false)
    c.deed_of.ensures c.in-Slot.is c.due_day.ensures c.min.ensures) refl

pub returns-in-Back : goal.returns-in-Back
returns-in-Back c = let z = state_of c.args.self.now c.args.quiet.now in let i = c.place_of-i in
    let k = c.newest_place-k in let r = c.requires in let m = c.args.m in
    let told = heard z r.sized r.due m i.result i.ensures.0 i.ensures.1 k.result k.ensures c.answer_of-said.ensures c.settled-answer.ensures in
    told_by (back_next z r.sized r.due m i.result i.ensures.0 i.ensures.1 k.result k.ensures told (sym c.is_accepted.ensures ∙ c.if-not-is_accepted.false)
    c.deed_of.ensures c.in-Back.is c.booked_at.ensures c.due_day-in-Back.ensures c.min-in-Back.ensures) refl

pub returns-in-Sign : goal.returns-in-Sign
returns-in-Sign c = let z = state_of c.args.self.now c.args.quiet.now in let i = c.place_of-i in
    let k = c.newest_place-k in let r = c.requires in let m = c.args.m in
    let told = heard z r.sized r.due m i.result i.ensures.0 i.ensures.1 k.result k.ensures c.answer_of-said.ensures c.settled-answer.ensures in
    told_by (sign_next z r.sized r.due m i.result i.ensures.0 i.ensures.1 k.result k.ensures told (sym c.is_accepted.ensures ∙ c.if-not-is_accepted.false)
    c.deed_of.ensures c.in-Sign.is) refl

pub returns-in-Pass : goal.returns-in-Pass
returns-in-Pass c = let z = state_of c.args.self.now c.args.quiet.now in let i = c.place_of-i in
    let k = c.newest_place-k in let r = c.requires in let m = c.args.m in
    let told = heard z r.sized r.due m i.result i.ensures.0 i.ensures.1 k.result k.ensures c.answer_of-said.ensures c.settled-answer.ensures in
    told_by (pass_next z r.sized r.due m i.result i.ensures.0 i.ensures.1 k.result k.ensures told (sym c.is_accepted.ensures ∙ c.if-not-is_accepted.false)
    c.deed_of.ensures c.in-Pass.is) refl

pub returns-in-Fail : goal.returns-in-Fail
returns-in-Fail c = let z = state_of c.args.self.now c.args.quiet.now in let i = c.place_of-i in
    let k = c.newest_place-k in let r = c.requires in let m = c.args.m in
    let told = heard z r.sized r.due m i.result i.ensures.0 i.ensures.1 k.result k.ensures c.answer_of-said.ensures c.settled-answer.ensures in
    told_by (fail_next z r.sized r.due m i.result i.ensures.0 i.ensures.1 k.result k.ensures told (sym c.is_accepted.ensures ∙ c.if-not-is_accepted.false)
    c.deed_of.ensures c.in-Fail.is c.fail_all.ensures c.first_due.ensures) refl

pub returns-in-Whole : goal.returns-in-Whole
returns-in-Whole c = let z = state_of c.args.self.now c.args.quiet.now in let i = c.place_of-i in
    let k = c.newest_place-k in let r = c.requires in let m = c.args.m in
    let told = heard z r.sized r.due m i.result i.ensures.0 i.ensures.1 k.result k.ensures c.answer_of-said.ensures c.settled-answer.ensures in
    let w = c.go_by_the_desk.ensures in
    record { answer = told.answer; after = w.after; part = w.part; calm = record { sized = w.sized; due = omega (arith, c.first_due-in-Whole.ensures) } }
