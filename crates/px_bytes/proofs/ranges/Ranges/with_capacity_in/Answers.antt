use Rattle.px_bytes.proofs.marks.ClaimedOnce.{no_ranges}
use Rattle.px_bytes.proofs.ranges.Ranges.with_capacity_in.Goals as goal

pub invariant_of-result : goal.invariant_of-result
invariant_of-result c = no_ranges _ _ c.new.ensures c.in_ok-marks.ensures.none
