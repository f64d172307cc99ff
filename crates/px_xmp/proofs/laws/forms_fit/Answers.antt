use Rattle.px_xmp.proofs.FormFitLaws.{forms_fit}
use Rattle.px_xmp.proofs.laws.forms_fit.Goals as goal

pub returns : goal.returns
returns c =
    forms_fit c.normal_reads_back.ensures c.normal_bound.ensures c.fault_or_text.ensures c.normal_is_file.ensures
