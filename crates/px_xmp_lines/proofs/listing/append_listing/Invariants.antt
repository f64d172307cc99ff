use Rattle.std.proofs.Common.{◌≡◌, length}
use Rattle.px_xmp_lines.specs.Lines.{KeepsPrinted}
use Rattle.px_xmp_lines.proofs.listing.append_listing.Given as goal

abbrev pub invariant-loop-rest : goal.invariant-loop-rest
invariant-loop-rest l = record {
  memory : l.memory.failed_allocations ≡ l.fn.memory.failed_allocations;
  printed : KeepsPrinted l.fn.out.items l.out.items;
}

abbrev pub decreases-loop-rest : goal.decreases-loop-rest
decreases-loop-rest l = length l.rest
