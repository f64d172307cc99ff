use Rattle.std.proofs.Common.{◌≡◌, Some, length, drop, sym, ap, subst, ◌∙◌, arith, drop-drop, length-drop}
use Rattle.px_xmp_marks.specs.Marks.{mark_len}
use Rattle.px_xmp_document.proofs.PieceLaws.{Found, mark_found}
use Rattle.px_xmp_document.proofs.SpaceFaultLaws.{Before, one_more, wrong_here, nothing_here}
use Rattle.px_xmp_document.proofs.spaces.space_fault.Goals as goal

pub returns-in_default : goal.returns-in_default
returns-in_default c =
    let y = drop c.loop-at.at c.args.octets.now in
    record {
      within = c.loop-at-test.true;
      before = c.loop-at.invariant.read.0;
      scope = c.loop-at.scope;
      marked = c.loop-at.invariant.read.1;
      leads = c.loop-at.invariant.read.2;
      wrong = nothing_here c.marks_are_read.ensures y c.loop-at.scope (ap mark_len (sym c.split_at.ensures.back) ∙ sym c.in_default.ensures.size);
    }

pub returns-in-Some-pass : goal.returns-in-Some-pass
returns-in-Some-pass c =
    let y = drop c.loop-at.at c.args.octets.now in
    let n = c.in-Some.mark.size in
    let back = c.split_at.ensures.back in
    let e : mark_len y ≡ Some n = ap mark_len (sym back) ∙ sym c.in-Some.ensures.size in
    let here : Found y n =
    mark_found c.marks_are_read.ensures c.only_marks_are_read.ensures c.start_tags_are_read.ensures c.only_start_tags_are_read.ensures
    c.end_tags_are_read.ensures c.only_end_tags_are_read.ensures y n e in
    record {
      within = c.loop-at-test.true;
      before = c.loop-at.invariant.read.0;
      scope = c.loop-at.scope;
      marked = c.loop-at.invariant.read.1;
      leads = c.loop-at.invariant.read.2;
      wrong = wrong_here y n c.loop-at.scope c.in-Some-pass.cause here (λ p m rest i w. c.in-Some-pass.ensures p m rest i (back ∙ w));
    }

pub loop-at-preserved : goal.loop-at-preserved
loop-at-preserved c =
    let x = c.args.octets.now in
    let at = c.loop-at.at in
    let y = drop at x in
    let n = c.in-Some.mark.size in
    let s = c.loop-at.scope in
    let t = c.pass.new.self in
    let back = c.split_at.ensures.back in
    let e : mark_len y ≡ Some n = ap mark_len (sym back) ∙ sym c.in-Some.ensures.size in
    let here : Found y n =
    mark_found c.marks_are_read.ensures c.only_marks_are_read.ensures c.start_tags_are_read.ensures c.only_start_tags_are_read.ensures
    c.end_tags_are_read.ensures c.only_end_tags_are_read.ensures y n e in
    let read : Before x (drop n y) t =
    one_more x y n s t c.loop-at.invariant.read here (λ p m rest i w. c.in_default-pass.ensures p m rest i (back ∙ w)) in
    record {
      within = omega (arith, c.in-Some.ensures.within, ap length back, length-drop at x, c.loop-at.invariant.within);
      read = subst (λ u. Before x u t) (drop-drop n at x) read;
    }
