use Rattle.px_engine.proofs.Judged.{refused_is_no_meaning, refused_alloc_failure}
use Rattle.px_engine.proofs.meaning.judge.Goals as goal

pub returns-in-Err-clause-no_meaning : goal.returns-in-Err-clause-no_meaning
returns-in-Err-clause-no_meaning c =
    refused_is_no_meaning c.args.file.now c.read_any_in.new.memory.failed_allocations c.in-Err.refusal c.from.result c.from.ensures
    c.in-Err.ensures.refused

pub returns-in-Err-clause-memory : goal.returns-in-Err-clause-memory
returns-in-Err-clause-memory c =
    refused_alloc_failure c.in-Err.refusal c.from.result c.args.memory.now.failed_allocations c.read_any_in.new.memory.failed_allocations
    c.from.ensures
    c.in-Err.ensures.memory
