use Rattle.std.proofs.Common.{IfOk, subst}
use Rattle.px_bytes.specs.Checks.{CountsAllocFailureInBlockBy}
use Rattle.px_engine.specs.declared.kind.BlockKind.TheVariants as kind
use Rattle.px_engine.specs.Files as files
use Rattle.px_engine.specs.Input.{HasMeaningAs}
use Rattle.px_engine.proofs.Puts.{put_has_meaning, put_long, put_kept, given_alloc_failure}
use Rattle.px_engine.proofs.slice.put_record_in.Goals as goal

pub returns-in-Ok-clause-put : goal.returns-in-Ok-clause-put
returns-in-Ok-clause-put c =
    put_has_meaning kind.Iim c.args.block.now c.args.out.now c.put_record.new.out (files.Iim c.in-Ok.iim)
    (subst (λ r. IfOk r (λ m. HasMeaningAs kind.Iim c.args.block.now (files.Iim m))) c.in-Ok.is c.read_record.ensures.meaning)
    c.put_record.result c.given_of.result c.put_record.ensures c.given_of.ensures

pub returns-in-Ok-clause-unput : goal.returns-in-Ok-clause-unput
returns-in-Ok-clause-unput c =
    put_long kind.Iim c.args.block.now c.args.out.now c.put_record.new.out (files.Iim c.in-Ok.iim)
    (subst (λ r. IfOk r (λ m. HasMeaningAs kind.Iim c.args.block.now (files.Iim m))) c.in-Ok.is c.read_record.ensures.meaning)
    c.read_record.new.memory.failed_allocations c.put_record.result c.given_of.result c.put_record.ensures c.given_of.ensures

pub returns-in-Ok-clause-kept : goal.returns-in-Ok-clause-kept
returns-in-Ok-clause-kept c =
    put_kept kind.Iim c.args.block.now c.args.out.now c.put_record.new.out (files.Iim c.in-Ok.iim)
    (subst (λ r. IfOk r (λ m. HasMeaningAs kind.Iim c.args.block.now (files.Iim m))) c.in-Ok.is c.read_record.ensures.meaning)
    c.put_record.result c.given_of.result c.put_record.ensures c.given_of.ensures

pub returns-in-Ok-clause-memory : goal.returns-in-Ok-clause-memory
returns-in-Ok-clause-memory c =
    given_alloc_failure c.put_record.result c.given_of.result c.args.memory.now.failed_allocations
    c.read_record.new.memory.failed_allocations c.given_of.ensures
    (subst (λ r. CountsAllocFailureInBlockBy r c.args.memory.now.failed_allocations c.read_record.new.memory.failed_allocations) c.in-Ok.is
    c.read_record.ensures.memory)
