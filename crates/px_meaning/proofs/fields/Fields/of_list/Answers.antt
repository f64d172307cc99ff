use Rattle.px_meaning.proofs.writable.FieldLemmas.{order_from_rising}
use Rattle.px_meaning.proofs.fields.Fields.of_list.Goals as goal

pub invariant_of-result : goal.invariant_of-result
invariant_of-result c = order_from_rising _ c.requires
