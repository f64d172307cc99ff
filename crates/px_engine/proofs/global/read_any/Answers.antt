use Rattle.px_engine.specs.Input.{IsRefused}
use Rattle.px_engine.proofs.Ended.{own_memory}
use Rattle.px_engine.proofs.global.read_any.Goals as goal

pub returns-clause-refused : goal.returns-clause-refused
returns-clause-refused c = own_memory (IsRefused c.args.file.now) c.read_any_in.result _ c.read_any_in.ensures.refused
