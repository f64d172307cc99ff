use Rattle.std.proofs.Common.{◌≡◌}
use Rattle.px_xmp_lines.specs.Lines.{KeepsPrinted}
use Rattle.px_xmp_lines.proofs.listing.append_depth.Given as goal

abbrev pub invariant-loop : goal.invariant-loop
invariant-loop l = record {
  memory : l.memory.failed_allocations ≡ l.fn.memory.failed_allocations;
  printed : KeepsPrinted l.fn.out.items l.out.items;
}
