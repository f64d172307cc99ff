use Rattle.std.proofs.Common.{◌≡◌, ◌≤◌, length}
use Rattle.px_xmp.specs.Nodes.{Nodes, AreNodes}
use Rattle.px_xmp.specs.Meaning.{AreWhite}
use Rattle.px_xmp.specs.calls.Steps.{IsLeft, Moves}
use Rattle.px_xmp.proofs.source.Source.next_tag.Given as goal

abbrev pub invariant-marks : goal.invariant-marks
invariant-marks l = record {
  within : length l.self.rest.now ≤ length l.fn.self.rest.now;
  scope : l.self.scope ≡ l.fn.self.scope;
  read : IsLeft l.fn.self.at l.fn.self.rest.now → (white : Nodes) × AreWhite white
      × AreNodes white l.fn.self.scope l.fn.self.at l.fn.self.rest.now l.self.rest.now
      × Moves l.fn.self.at l.fn.self.rest.now l.self.at l.self.rest.now;
  failed_allocations : l.memory.failed_allocations ≡ l.fn.memory.failed_allocations;
}

abbrev pub decreases-marks : goal.decreases-marks
decreases-marks l = length l.self.rest.now
