use Rattle.std.proofs.Common.{◌≡◌, Some, length, drop, sym, ap, subst, ◌∙◌, arith, drop-drop, length-drop}
use Rattle.px_xmp_marks.specs.Reading.{start_tag}
use Rattle.px_xmp_marks.specs.Marks.{mark_len}
use Rattle.px_xmp.proofs.CrowdedLaws.{Row, row_step, crowded_here, crowded_not, ahead_step, none_unread, none_after}
use Rattle.px_xmp.proofs.crowded.first_crowded.Goals as goal

pub returns-then-has_many : goal.returns-then-has_many
returns-then-has_many c =
    record {
      crowded = crowded_here c.only_start_tags_are_read.ensures c.args.octets.now c.loop-at.at c.in-Some.mark.tag c.has_many.result
          c.loop-at.invariant.read (c.in-Some.ensures.tag ∙ ap start_tag c.split_at.ensures.back) c.has_many.ensures c.if-has_many.true;
      first = λ n h. (c.loop-at.invariant.ahead n h).0;
    }

pub loop-at-preserved : goal.loop-at-preserved
loop-at-preserved c =
    let x = c.args.octets.now in
    let at = c.loop-at.at in
    let y = drop at x in
    let size = c.in-Some.mark.size in
    let back = c.split_at.ensures.back in
    let e : mark_len y ≡ Some size = ap mark_len (sym back) ∙ sym c.in-Some.ensures.size in
    record {
      within = omega (arith, c.in-Some.ensures.within, ap length back, length-drop at x, c.loop-at.invariant.within);
      ahead = λ n h.
          ahead_step c.marks_are_read.ensures x at size n (c.loop-at.invariant.ahead n h) e h
          (crowded_not c.start_tags_are_read.ensures x at c.in-Some.mark.tag c.has_many.result (c.in-Some.ensures.tag ∙ ap start_tag back)
          c.has_many.ensures c.if-has_many.false);
      read = subst (Row x) (drop-drop size at x) (row_step c.only_marks_are_read.ensures x y size c.loop-at.invariant.read e);
    }

pub returns-in_default : goal.returns-in_default
returns-in_default c n h =
    none_unread c.marks_are_read.ensures c.args.octets.now c.loop-at.at n (c.loop-at.invariant.ahead n h).1
    (ap mark_len (sym c.split_at.ensures.back) ∙ sym c.in_default.ensures.size) h

pub returns : goal.returns
returns c n h = none_after c.args.octets.now c.loop-at.at n (omega (arith, c.loop-at-test.false)) (c.loop-at.invariant.ahead n h).0 h
