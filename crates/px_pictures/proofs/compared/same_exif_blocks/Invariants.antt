use Rattle.std.proofs.Common.{◌≡◌, ◌≤◌, ◌+◌, ◌↔◌, length}
use Rattle.px_meaning.specs.Says.{SaysExif}
use Rattle.px_pictures.specs.Asking.{exif_requests}
use Rattle.px_pictures.specs.Faults.{AllExif}
use Rattle.px_pictures.specs.calls.Judging.{MeanSame, PairsMeanSame}
use Rattle.px_pictures.proofs.compared.same_exif_blocks.Given as goal

abbrev pub invariant-loop-block : goal.invariant-loop-block
invariant-loop-block l = record {
  same : MeanSame SaysExif l.left l.others ↔ MeanSame SaysExif l.initial.left l.initial.others;
  alike : PairsMeanSame SaysExif l.left l.others ↔ PairsMeanSame SaysExif l.initial.left l.initial.others;
  left_has_meaning : AllExif l.left;
  others_has_meaning : AllExif l.others;
  failed_allocations : l.memory.failed_allocations ≡ l.initial.memory.failed_allocations;
  asked : l.memory.asked + (exif_requests l.left + exif_requests l.others)
      ≤ l.initial.memory.asked + (exif_requests l.initial.left + exif_requests l.initial.others);
}

abbrev pub decreases-loop-block : goal.decreases-loop-block
decreases-loop-block l = length l.left
