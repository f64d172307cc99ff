use Rattle.std.proofs.Common.{◌∙◌}
use Rattle.px_bytes.proofs.Growth.{grown_more}
use Rattle.px_bytes.proofs.growing.GrowingSink.write_some.Goals as goal

pub invariant_of-self : goal.invariant_of-self
invariant_of-self c = (
  c.in-Ok.ensures.memory ∙ c.self.invariant.0,
  rw c.in-Ok.ensures.len (grown_more _ _ _ _ _ _ _ c.self.invariant.1 c.in-Ok.ensures.capacity c.in-Ok.ensures.fits
      c.in-Ok.ensures.asked c.in-Ok.ensures.larger),
)
