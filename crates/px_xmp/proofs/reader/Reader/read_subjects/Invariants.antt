use Rattle.std.proofs.Common.{◌≡◌, ℕ, List, length}
use Rattle.px_xmp_forms.specs.Outputs.{State, Has}
use Rattle.px_xmp.specs.calls.Steps.{IsLeft}
use Rattle.px_xmp.specs.calls.Fits.{SubjectFits}
use Rattle.px_xmp.proofs.RootLaws.{SubjectsSoFar}
use Rattle.px_xmp.proofs.SubjectLaws.{SubjectsAhead}
use Rattle.px_xmp.proofs.reader.Reader.read_subjects.Given as goal

abbrev pub invariant-subjects : goal.invariant-subjects
invariant-subjects l = record {
  read : (s : State) → Has l.fn.self.output s → IsLeft l.fn.self.source.at l.fn.self.source.rest.now
      → SubjectsSoFar l.around.language.now l.around.depth l.fn.self.source l.self.source l.fn.subject l.subject s l.self.output;
  ahead : (s : State) (y : List ℕ) → Has l.fn.self.output s → SubjectsAhead l.around.language.now l.around.depth l.fn.self.source y
      → SubjectFits l.fn.subject → SubjectsAhead l.around.language.now l.around.depth l.self.source y × SubjectFits l.subject;
  failed_allocations : l.memory.failed_allocations ≡ l.fn.memory.failed_allocations;
}

abbrev pub decreases-subjects : goal.decreases-subjects
decreases-subjects l = length l.self.source.rest.now
