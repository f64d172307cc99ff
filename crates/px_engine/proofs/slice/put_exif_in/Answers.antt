use Rattle.std.proofs.Common.{IfOk, subst}
use Rattle.px_bytes.specs.Checks.{CountsAllocFailureInBlockBy}
use Rattle.px_meaning.specs.calls.Seen.{meaning_of}
use Rattle.px_engine.specs.declared.kind.BlockKind.TheVariants as kind
use Rattle.px_engine.specs.Files as files
use Rattle.px_engine.specs.Input.{HasMeaningAs}
use Rattle.px_engine.proofs.Puts.{put_has_meaning, put_long, put_kept, given_alloc_failure}
use Rattle.px_engine.proofs.slice.put_exif_in.Goals as goal

pub returns-in-Ok-clause-put : goal.returns-in-Ok-clause-put
returns-in-Ok-clause-put c =
    put_has_meaning kind.Exif c.args.block.now c.args.out.now c.put_exif.new.out (files.Exif (meaning_of c.in-Ok.meaning))
    (subst (λ r. IfOk r (λ m. HasMeaningAs kind.Exif c.args.block.now (files.Exif (meaning_of m)))) c.in-Ok.is c.read_exif.ensures.meaning)
    c.put_exif.result c.given_of.result c.put_exif.ensures c.given_of.ensures

pub returns-in-Ok-clause-unput : goal.returns-in-Ok-clause-unput
returns-in-Ok-clause-unput c =
    put_long kind.Exif c.args.block.now c.args.out.now c.put_exif.new.out (files.Exif (meaning_of c.in-Ok.meaning))
    (subst (λ r. IfOk r (λ m. HasMeaningAs kind.Exif c.args.block.now (files.Exif (meaning_of m)))) c.in-Ok.is c.read_exif.ensures.meaning)
    c.read_exif.new.memory.failed_allocations c.put_exif.result c.given_of.result c.put_exif.ensures c.given_of.ensures

pub returns-in-Ok-clause-kept : goal.returns-in-Ok-clause-kept
returns-in-Ok-clause-kept c =
    put_kept kind.Exif c.args.block.now c.args.out.now c.put_exif.new.out (files.Exif (meaning_of c.in-Ok.meaning))
    (subst (λ r. IfOk r (λ m. HasMeaningAs kind.Exif c.args.block.now (files.Exif (meaning_of m)))) c.in-Ok.is c.read_exif.ensures.meaning)
    c.put_exif.result c.given_of.result c.put_exif.ensures c.given_of.ensures

pub returns-in-Ok-clause-memory : goal.returns-in-Ok-clause-memory
returns-in-Ok-clause-memory c =
    given_alloc_failure c.put_exif.result c.given_of.result c.args.memory.now.failed_allocations c.read_exif.new.memory.failed_allocations
    c.given_of.ensures
    (subst (λ r. CountsAllocFailureInBlockBy r c.args.memory.now.failed_allocations c.read_exif.new.memory.failed_allocations) c.in-Ok.is
    c.read_exif.ensures.memory)
