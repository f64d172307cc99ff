use Rattle.px_xmp.proofs.JudgedLaws.{scopes_are_judged}
use Rattle.px_xmp.proofs.laws.scopes_are_judged.Goals as goal

pub returns : goal.returns
returns c = scopes_are_judged
