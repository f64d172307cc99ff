use Rattle.std.proofs.Common.{◌≡◌, length}
use Rattle.px_xmp.specs.Nodes.{Nodes, AreNodes}
use Rattle.px_xmp.specs.Meaning.{AreWhite}
use Rattle.px_xmp.specs.calls.Steps.{IsLeft, Moves}
use Rattle.px_xmp.proofs.source.Source.read_after.Given as goal

abbrev pub invariant-loop-place : goal.invariant-loop-place
invariant-loop-place l = record {
  read : IsLeft l.fn.self.at l.fn.self.rest.now → (white : Nodes) × AreWhite white
      × AreNodes white l.fn.self.scope l.fn.self.at l.fn.self.rest.now l.self.rest.now
      × Moves l.fn.self.at l.fn.self.rest.now l.self.at l.self.rest.now;
  failed_allocations : l.memory.failed_allocations ≡ l.fn.memory.failed_allocations;
}

abbrev pub decreases-loop-place : goal.decreases-loop-place
decreases-loop-place l = length l.self.rest.now
