use Rattle.px_xmp.proofs.LayerLaws as layers
use Rattle.px_xmp.proofs.laws.one_refusal.Goals as goal

pub returns : goal.returns
returns c = layers.one_refusal c.declarations_are_read.ensures c.one_fault.ensures
