use Rattle.px_xmp_markup.proofs.NestingLaws.{step_leads}
use Rattle.px_xmp_markup.proofs.laws.steps_lead.Goals as goal

pub returns : goal.returns
returns c = step_leads
