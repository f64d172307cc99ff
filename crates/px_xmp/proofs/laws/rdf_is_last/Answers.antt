use Rattle.px_xmp.proofs.LayerLaws as layers
use Rattle.px_xmp.proofs.laws.rdf_is_last.Goals as goal

pub returns : goal.returns
returns c =
    layers.rdf_last c.marks_are_read.ensures c.start_tags_are_read.ensures c.declarations_are_read.ensures c.one_fault.ensures
