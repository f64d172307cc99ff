use Rattle.px_engine.specs.Input.{IsRunFault}
use Rattle.px_engine.proofs.Ended.{own_memory}
use Rattle.px_engine.proofs.global.check_of.Goals as goal

pub returns-clause-no_meaning : goal.returns-clause-no_meaning
returns-clause-no_meaning c = own_memory (IsRunFault c.args.file.now) c.check_of_in.result _ c.check_of_in.ensures.no_meaning
