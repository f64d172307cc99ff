use Rattle.std.proofs.Common.{sym}
use Rattle.px_meaning.proofs.writable.FieldLemmas.{at_tag_read, at_tag_gap}
use Rattle.px_meaning.proofs.fields.Fields.get.Goals as goal

pub returns-in-Ok : goal.returns-in-Ok
returns-in-Ok c =
    rw (← c.self.view_is) (sym (at_tag_read _ _ c.in-Ok.i _ c.self.invariant (rw c.as_slice.ensures.value at c.in-Ok.ensures.found)
    c.index.ensures))

pub returns-in-Err : goal.returns-in-Err
returns-in-Err c = rw (← c.self.view_is) (sym (at_tag_gap _ _ _ (rw c.as_slice.ensures.value at c.in-Err.ensures.absent)))
