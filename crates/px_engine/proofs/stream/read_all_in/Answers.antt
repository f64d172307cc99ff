use Rattle.px_engine.proofs.Judged.{consumes_most}
use Rattle.px_engine.proofs.stream.read_all_in.Goals as goal

pub returns-clause-lost : goal.returns-clause-lost
returns-clause-lost g c = consumes_most _ _ c.in_ok-read_up_to_in.field-0.items c.in_ok-read_up_to_in.ensures.found
