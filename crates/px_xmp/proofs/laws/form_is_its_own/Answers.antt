use Rattle.px_xmp.proofs.AcceptedLaws.{form_is_its_own}
use Rattle.px_xmp.proofs.laws.form_is_its_own.Goals as goal

pub returns : goal.returns
returns c = form_is_its_own c.normal_is_file.ensures c.normal_says.ensures
