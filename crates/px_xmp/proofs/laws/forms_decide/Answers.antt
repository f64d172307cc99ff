use Rattle.px_xmp.proofs.DocumentLaws.{forms_decide}
use Rattle.px_xmp.proofs.laws.forms_decide.Goals as goal

pub returns : goal.returns
returns c = forms_decide c.packet_is_injective.ensures c.one_meaning.ensures
