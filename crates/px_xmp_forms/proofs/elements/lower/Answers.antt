use Rattle.std.proofs.Common.{◌≤◌, ◌+◌, ◌∙◌, arith, ap, ℕ, vec_len, vec_capacity}
use Rattle.std.proofs.lemmas.Grind.{common_steps}
use Rattle.px_xmp_forms.proofs.elements.lower.Goals as goal

pub loop-octet-preserved : goal.loop-octet-preserved
loop-octet-preserved c = record {
  value = grind (arith, common_steps);
  failed_allocations = c.in_ok-push.ensures.memory ∙ c.loop-octet.invariant.failed_allocations;
  len = c.in_ok-push.ensures.len ∙ ap (λ (n : ℕ). n + 1) c.loop-octet.invariant.len;
  space = omega (arith, c.loop-octet.invariant.space, c.push.ensures.capacity);
  asked = λ few.
      let room : vec_len c.loop-octet.octets + 1 ≤ vec_capacity c.loop-octet.octets =
      omega (arith, few, c.loop-octet.invariant.len, c.loop-octet.invariant.space, c.loop-octet-test.true) in
      omega (arith, c.loop-octet.invariant.asked few, (c.push.ensures.fits room).2);
}
