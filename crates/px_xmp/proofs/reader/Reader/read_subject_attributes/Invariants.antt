use Rattle.std.proofs.Common.{◌≡◌, List}
use Rattle.px_xmp_marks.specs.Reading.{Attr}
use Rattle.px_xmp_forms.specs.Entries.{Entry}
use Rattle.px_xmp_forms.specs.Outputs.{State, Has}
use Rattle.px_xmp.specs.Tags.{fields_in}
use Rattle.px_xmp.specs.calls.Listed.{AreListed}
use Rattle.px_xmp.specs.calls.Fits.{FieldsFit, SubjectFits}
use Rattle.px_xmp.proofs.OpeningLaws.{left_len}
use Rattle.px_xmp.proofs.RootLaws.{AttributesLeft}
use Rattle.px_xmp.proofs.SubjectAttributeLaws.{PropertiesFit, PropertiesAhead, FieldsLeft}
use Rattle.px_xmp.proofs.reader.Reader.read_subject_attributes.Given as goal

abbrev pub invariant-loop-found : goal.invariant-loop-found
invariant-loop-found l = record {
  source : l.self.source ≡ l.fn.self.source;
  put : (s : State) (all : List Attr) → Has l.fn.self.output s → AreListed l.attributes all
      → AttributesLeft l.found l.fn.self.source.scope all l.around.language.now l.around.depth l.around.place s l.fn.subject l.subject l.self.output;
  ahead : (all : List Attr) (es : List Entry) → AreListed l.attributes all
      → PropertiesFit l.around.language.now l.around.place l.around.depth (fields_in l.fn.self.source.scope all) es
      → PropertiesAhead l.found l.fn.self.source.scope l.around.language.now l.around.place l.around.depth;
  fits : (all : List Attr) → AreListed l.attributes all → FieldsFit (fields_in l.fn.self.source.scope all) → SubjectFits l.fn.subject
      → FieldsLeft l.found l.fn.self.source.scope × SubjectFits l.subject;
  failed_allocations : l.memory.failed_allocations ≡ l.fn.memory.failed_allocations;
}

abbrev pub decreases-loop-found : goal.decreases-loop-found
decreases-loop-found l = left_len l.found
