use Rattle.px_meaning.proofs.writable.FieldLemmas.{rising_from_order}
use Rattle.px_meaning.proofs.fields.Fields.len.Goals as goal

pub returns-clause-order : goal.returns-clause-order
returns-clause-order c = rw (← c.self.view_is) (rising_from_order _ c.self.invariant)
