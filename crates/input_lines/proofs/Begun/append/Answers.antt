use Rattle.input_lines.proofs.KeptBytes.{begun_appended, kept_le}
use Rattle.input_lines.proofs.Begun.append.Goals as goal

pub returns : goal.returns
returns c = let held = c.held-held.result.now in rw (← c.held-held.ensures)
    (begun_appended held c.args.more.now _ _ _ _ _ (rw c.held-held.ensures (kept_le c.args.self.now)) c.min.ensures c.put_word-mid.ensures c.put_word-end.ensures)
