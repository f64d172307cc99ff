use Rattle.std.proofs.Common.{refl, arith}
use Rattle.px_meaning.proofs.writable.WritableLemmas.{fits_one_more, fits_all}
use Rattle.px_meaning.proofs.fitting.fits_fields.Goals as goal

pub loop-i-preserved : goal.loop-i-preserved
loop-i-preserved c =
    fits_one_more _ _ _ _ _ c.is_allowed.ensures.tag c.is_allowed.ensures.value (c.is_allowed.ensures.allowed.0 c.if-not-is_allowed.false)
    c.at-tag.ensures c.loop-i.invariant

pub returns : goal.returns
returns c = (λ _. fits_all _ _ c.len-i-end.ensures.order (λ k p below e. c.loop-i.invariant k p (omega arith) e), λ _. refl)
