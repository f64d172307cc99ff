use Rattle.std.proofs.Common.{◌≡◌, List}
use Rattle.px_xmp.specs.Tags.{fields_in}
use Rattle.px_xmp_marks.specs.Reading.{Attr}
use Rattle.px_xmp_forms.specs.Entries.{Entry}
use Rattle.px_xmp_forms.specs.Outputs.{State, Has}
use Rattle.px_xmp.specs.calls.Listed.{AreListed}
use Rattle.px_xmp.specs.calls.Fits.{AttributesFit}
use Rattle.px_xmp.proofs.OpeningLaws.{PropertiesLeft, PropertiesAhead, left_len}
use Rattle.px_xmp.proofs.opening.put_properties.Given as goal

abbrev pub invariant-loop-found : goal.invariant-loop-found
invariant-loop-found l = record {
  put : (s : State) (all : List Attr) → Has l.fn.output s → AreListed l.attributes all
      → PropertiesLeft l.found l.scope all l.around.language.now l.around.depth l.around.place s l.output;
  ahead : (all : List Attr) (es : List Entry) → AreListed l.attributes all
      → AttributesFit l.around.language.now l.around.place l.around.depth (fields_in l.scope all) es
      → PropertiesAhead l.found l.scope l.around.language.now l.around.place l.around.depth;
  failed_allocations : l.memory.failed_allocations ≡ l.fn.memory.failed_allocations;
}

abbrev pub decreases-loop-found : goal.decreases-loop-found
decreases-loop-found l = left_len l.found
