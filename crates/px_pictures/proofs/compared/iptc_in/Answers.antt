use Rattle.px_pictures.proofs.PairLaws.{iptc_alloc_failure}
use Rattle.px_pictures.proofs.compared.iptc_in.Goals as goal

pub returns-in-Err-clause-memory : goal.returns-in-Err-clause-memory
returns-in-Err-clause-memory c =
    iptc_alloc_failure c.args.bytes.now c.in-Err.field-0 c.read_iim_in.new.memory.failed_allocations c.args.memory.now.failed_allocations
    c.read_iim_in.new.memory.failed_allocations c.requires c.in-Err.ensures.is_fault c.in-Err.ensures.memory
