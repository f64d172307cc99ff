use Rattle.std.proofs.Common.{◌≤◌, ◌-◌, length}
use Rattle.px_jpeg.proofs.EndLaws.{Walked}
use Rattle.px_jpeg.proofs.fronts.end_of_front.Given as goal

abbrev pub invariant-loop-part : goal.invariant-loop-part
invariant-loop-part l = record {
  inside : l.at ≤ length l.bytes;
  begun : l.begun ≤ length l.bytes;
  walked : Walked l.bytes l.at l.begun l.last;
}

abbrev pub decreases-loop-part : goal.decreases-loop-part
decreases-loop-part l = length l.bytes - l.at
