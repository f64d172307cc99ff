use Rattle.px_engine.specs.Input.{IsRunFault}
use Rattle.px_engine.proofs.Ended.{own_memory}
use Rattle.px_engine.proofs.global.captions_text.Goals as goal

pub returns-clause-no_meaning : goal.returns-clause-no_meaning
returns-clause-no_meaning c = own_memory (IsRunFault c.args.file.now) c.captions_text_in.result _ c.captions_text_in.ensures.no_meaning
