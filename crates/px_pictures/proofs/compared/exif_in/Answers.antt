use Rattle.std.proofs.Common.{ℕ, List, sym, subst}
use Rattle.px_meaning.specs.Tree.{Meaning}
use Rattle.px_meaning.specs.Says.{SaysExif}
use Rattle.px_pictures.proofs.PairLaws.{exif_alloc_failure}
use Rattle.px_pictures.proofs.compared.exif_in.Goals as goal

pub returns-in-Err-read_block_in-clause-memory : goal.returns-in-Err-read_block_in-clause-memory
returns-in-Err-read_block_in-clause-memory c =
    exif_alloc_failure c.in-Ok.block c.in-Err-read_block_in.field-0 c.read_block_in.new.memory.failed_allocations
    c.args.memory.now.failed_allocations
    c.read_block_in.new.memory.failed_allocations
    (subst (λ (b : List ℕ). (m : Meaning) × SaysExif b m) (sym c.in-Ok.ensures.0) c.requires) c.in-Err-read_block_in.ensures.refused
    c.in-Err-read_block_in.ensures.memory
