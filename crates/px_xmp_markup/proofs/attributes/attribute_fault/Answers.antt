use Rattle.std.proofs.Common.{◌≡◌, Some, length, drop, sym, ap, subst, ◌∙◌, arith, drop-drop, length-drop}
use Rattle.px_xmp_marks.specs.Marks.{mark_len}
use Rattle.px_xmp_markup.proofs.AttributeLaws.{Before, one_more, twice_here, nothing_here}
use Rattle.px_xmp_markup.proofs.attributes.attribute_fault.Goals as goal

pub returns-in_default : goal.returns-in_default
returns-in_default c =
    let y = drop c.loop-at.at c.args.octets.now in
    let back = c.split_at.ensures.back in
    record {
      within = c.loop-at-test.true;
      marks = c.loop-at.invariant.read.0;
      before = c.loop-at.invariant.read.1;
      distinct = c.loop-at.invariant.read.2;
      wrong = nothing_here c.marks_are_read.ensures y (ap mark_len (sym back) ∙ sym c.in_default.ensures.size);
    }

pub returns-then-is_repeated : goal.returns-then-is_repeated
returns-then-is_repeated c =
    let y = drop c.loop-at.at c.args.octets.now in
    let back = c.split_at.ensures.back in
    let e : mark_len y ≡ Some c.in-Some.mark.size = ap mark_len (sym back) ∙ sym c.in-Some.ensures.size in
    record {
      within = c.loop-at-test.true;
      marks = c.loop-at.invariant.read.0;
      before = c.loop-at.invariant.read.1;
      distinct = c.loop-at.invariant.read.2;
      wrong = twice_here c.only_marks_are_read.ensures y c.in-Some.mark.size e
          (λ m rest i w. c.is_repeated.ensures.repeated m rest i (back ∙ w) c.if-is_repeated.true);
    }

pub loop-at-preserved : goal.loop-at-preserved
loop-at-preserved c =
    let x = c.args.octets.now in
    let at = c.loop-at.at in
    let n = c.in-Some.mark.size in
    let back = c.split_at.ensures.back in
    let e : mark_len (drop at x) ≡ Some n = ap mark_len (sym back) ∙ sym c.in-Some.ensures.size in
    let read : Before x (drop n (drop at x)) =
    one_more c.only_marks_are_read.ensures x (drop at x) n c.loop-at.invariant.read e
    (λ m rest i w. c.is_repeated.ensures.distinct m rest i (back ∙ w) c.if-is_repeated.false) in
    record {
      within = omega (arith, c.in-Some.ensures.within, ap length back, length-drop at x, c.loop-at.invariant.within);
      read = subst (Before x) (drop-drop n at x) read;
    }
