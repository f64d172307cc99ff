use Rattle.px_iim.specs.lemmas.GatherLaws.{put_appends}
use Rattle.px_iim.proofs.laws.put_appends.Goals as goal

pub returns : goal.returns
returns c = put_appends
