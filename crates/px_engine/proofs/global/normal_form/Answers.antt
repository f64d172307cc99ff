use Rattle.px_engine.specs.Slices.{IsUnwritten}
use Rattle.px_engine.proofs.Ended.{own_memory}
use Rattle.px_engine.proofs.global.normal_form.Goals as goal

pub returns-clause-unwritten : goal.returns-clause-unwritten
returns-clause-unwritten c = own_memory (IsUnwritten c.args.file.now) c.normal_form_in.result _ c.normal_form_in.ensures.unwritten
