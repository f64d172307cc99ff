use Rattle.std.proofs.Common.{◌≡◌, ◌≤◌, true, false, ℕ, List, length}
use Rattle.px_xmp_forms.specs.Outputs.{State, Has, begun, nothing, with_text}
use Rattle.px_xmp.specs.Nodes.{Nodes, AreNodes}
use Rattle.px_xmp.specs.Meaning.{AreWhite, IsText}
use Rattle.px_xmp.specs.calls.Steps.{IsLeft, Moves}
use Rattle.px_xmp.proofs.reader.Reader.read_text.Given as goal

abbrev pub invariant-marks : goal.invariant-marks
invariant-marks l = record {
  within : length l.self.source.rest.now ≤ length l.fn.self.source.rest.now;
  scope : l.self.source.scope ≡ l.fn.self.source.scope;
  read : (s : State) → Has l.fn.self.output (begun nothing s) → IsLeft l.fn.self.source.at l.fn.self.source.rest.now
      → (nodes : Nodes) × (text : List ℕ) × IsText nodes text × (l.says ≡ false → AreWhite nodes) × (l.says ≡ true → AreWhite nodes → ⊥)
      × AreNodes nodes l.fn.self.source.scope l.fn.self.source.at l.fn.self.source.rest.now l.self.source.rest.now
      × Moves l.fn.self.source.at l.fn.self.source.rest.now l.self.source.at l.self.source.rest.now
      × Has l.self.output (begun (with_text text nothing) s);
  failed_allocations : l.memory.failed_allocations ≡ l.fn.memory.failed_allocations;
}

abbrev pub decreases-marks : goal.decreases-marks
decreases-marks l = length l.self.source.rest.now
