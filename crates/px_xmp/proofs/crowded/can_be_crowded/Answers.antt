use Rattle.std.proofs.Common.{◌≤◌, ℕ, List, subst, ap, length, length-drop, arith}
use Rattle.px_xmp.specs.calls.Crowded.{equals_signs}
use Rattle.px_xmp.proofs.LongLaws.{long_tag, long_in_run, long_within, tag_ahead}
use Rattle.px_xmp.proofs.crowded.can_be_crowded.Goals as goal

pub returns-then-not-has_long_run : goal.returns-then-not-has_long_run
returns-then-not-has_long_run c none n h =
    let (m, is) = long_in_run c.args.octets.now n (long_tag c.args.octets.now n h) in
    c.has_long_run.ensures c.if-not-has_long_run.true m is

pub loop-at-preserved : goal.loop-at-preserved
loop-at-preserved c =
    let x = c.args.octets.now in
    let at = c.loop-at.at in
    let y = c.split_at.result.1.now in
    let len = c.len_before-len.result in
    let back = c.split_at.ensures.back in
    record {
      within = omega (arith, c.len_before-len.ensures.within, ap length back, length-drop at x, c.loop-at-test.true);
      before = λ n h.
          tag_ahead x y n at len (long_tag x n h) back c.len_before-len.ensures.value c.len_before-len.ensures.within (c.loop-at.invariant.before n h)
          (subst (λ (z : List ℕ). 1285 ≤ length z → equals_signs z ≤ 256) c.split_at-in-loop-at.ensures.front (c.can_be_tag.ensures c.if-can_be_tag.false));
    }

pub returns : goal.returns
returns c none n h =
    let x = c.args.octets.now in
    omega (arith, c.loop-at-test.false, c.loop-at.invariant.before n h, long_within x n (long_tag x n h))
