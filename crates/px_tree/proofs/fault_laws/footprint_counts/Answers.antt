use Rattle.px_tree.proofs.assembling.Footprint as footprint
use Rattle.px_tree.proofs.fault_laws.footprint_counts.Goals as goal

pub returns : goal.returns
returns c = footprint.footprint_counts
