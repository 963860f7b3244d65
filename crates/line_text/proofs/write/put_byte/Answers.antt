-- `line_text::write::put_byte` meets its contract: one store, or none.
use Rattle.basics.proofs.Basics.{refl, [], ◌∷◌, arith}
use Rattle.line_text.proofs.Appends.{put_sets, appended, not_appended}
use Rattle.line_text.proofs.write.put_byte.Goals as goal

pub returns-then-out-at : goal.returns-then-out-at
returns-then-out-at c = let a = c.args in not_appended a.at (a.b ∷ []) a.out.now (omega arith)

pub returns : goal.returns
returns c = let a = c.args in
    appended a.at (a.b ∷ []) a.out.now _ _ (omega arith) (put_sets a.at (a.b ∷ []) a.out.now (omega arith)) refl
