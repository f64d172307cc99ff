use Rattle.px_xmp_marks.proofs.TagLaws.{attributes_in_order}
use Rattle.px_xmp_marks.proofs.laws.attributes_in_order.Goals as goal

pub returns : goal.returns
returns c = attributes_in_order
