use Rattle.std.proofs.Common.{◌≡◌, ◌≤◌, ◌+◌, ◌↔◌, length}
use Rattle.px_iim.specs.Record.{SaysIim}
use Rattle.px_pictures.specs.Asking.{iptc_requests}
use Rattle.px_pictures.specs.Faults.{AllIptc}
use Rattle.px_pictures.specs.calls.Judging.{MeanSame, PairsMeanSame}
use Rattle.px_pictures.proofs.compared.same_iptc_blocks.Given as goal

abbrev pub invariant-loop-block : goal.invariant-loop-block
invariant-loop-block l = record {
  same : MeanSame SaysIim l.left l.others ↔ MeanSame SaysIim l.initial.left l.initial.others;
  alike : PairsMeanSame SaysIim l.left l.others ↔ PairsMeanSame SaysIim l.initial.left l.initial.others;
  left_has_meaning : AllIptc l.left;
  others_has_meaning : AllIptc l.others;
  failed_allocations : l.memory.failed_allocations ≡ l.initial.memory.failed_allocations;
  asked : l.memory.asked + (iptc_requests l.left + iptc_requests l.others)
      ≤ l.initial.memory.asked + (iptc_requests l.initial.left + iptc_requests l.initial.others);
}

abbrev pub decreases-loop-block : goal.decreases-loop-block
decreases-loop-block l = length l.left
