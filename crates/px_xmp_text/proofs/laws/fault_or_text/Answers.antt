use Rattle.px_xmp_text.proofs.PieceLaws.{fault_or_text}
use Rattle.px_xmp_text.proofs.laws.fault_or_text.Goals as goal

pub returns : goal.returns
returns c = fault_or_text
