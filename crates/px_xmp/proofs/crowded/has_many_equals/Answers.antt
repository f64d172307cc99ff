use Rattle.std.proofs.Common.{◌≡◌, ℕ, ap, sym, subst, arith, length, length-drop, drop, drop-drop, ◌∙◌, ◌+◌, ◌≤◌, not, ◌==◌}
use Rattle.px_xmp_marks.specs.Reading.{run}
use Rattle.px_xmp.specs.calls.Crowded.{equals_signs}
use Rattle.px_xmp.proofs.LongLaws.{equals_step}
use Rattle.px_xmp.proofs.crowded.has_many_equals.Goals as goal

pub loop-at-preserved : goal.loop-at-preserved
loop-at-preserved c =
    let x = c.args.octets.now in
    let at = c.loop-at.at in
    let len = c.len_before.result in
    let back = c.split_at.ensures.back in
    let size : len ≡ run (λ o. not (o == 61)) (drop at x) = c.len_before.ensures.value ∙ ap (run (λ o. not (o == 61))) back in
    let step : equals_signs (drop at x) ≤ 1 + equals_signs (drop (len + 1) (drop at x)) =
    subst (λ (k : ℕ). equals_signs (drop at x) ≤ 1 + equals_signs (drop (k + 1) (drop at x))) (sym size) (equals_step (drop at x)) in
    record {
      within = omega (arith, c.len_before.ensures.within, ap length back, length-drop at x, c.loop-at-test.true);
      count = omega (arith, c.loop-at.invariant.count, c.if-left-eq0.false, step, ap equals_signs (drop-drop (len + 1) at x));
    }
