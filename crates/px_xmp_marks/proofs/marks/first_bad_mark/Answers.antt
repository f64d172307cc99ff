use Rattle.std.proofs.Common.{ℕ, List, [], length, drop, refl, sym, ap, subst, ◌∙◌, arith, drop-drop, length-drop}
use Rattle.std.proofs.lemmas.List.{drop_all}
use Rattle.px_xmp_marks.specs.Marks.{AreMarks, mark_len}
use Rattle.px_xmp_marks.proofs.MarkLaws.{no_mark, row_step}
use Rattle.px_xmp_marks.proofs.marks.first_bad_mark.Goals as goal

pub loop-at-init : goal.loop-at-init
loop-at-init c = record { within = omega arith; read = ([], refl) }

pub loop-at-preserved : goal.loop-at-preserved
loop-at-preserved c =
    let x = c.args.octets.now in
    let at = c.loop-at.at in
    let n = c.in-Some.len in
    let back = c.split_at.ensures.back in
    let e = ap mark_len (sym back) ∙ sym c.in-Some.ensures.value in
    record {
      within = omega (arith, c.in-Some.ensures.within, ap length back, length-drop at x, c.loop-at.invariant.within);
      read = subst (λ (u : List ℕ). (ms : List (List ℕ)) × AreMarks ms x u) (drop-drop n at x) (row_step x at n c.loop-at.invariant.read e);
    }

pub returns-in-None : goal.returns-in-None
returns-in-None c =
    let x = c.args.octets.now in
    let at = c.loop-at.at in
    record {
      within = c.loop-at-test.true;
      marks = c.loop-at.invariant.read.0;
      before = c.loop-at.invariant.read.1;
      none = no_mark (drop at x) (ap mark_len (sym c.split_at.ensures.back) ∙ sym c.in-None.ensures.value);
    }

pub returns : goal.returns
returns c =
    let x = c.args.octets.now in
    let at = c.loop-at.at in
    let r = c.loop-at.invariant.read in
    (r.0, subst (AreMarks r.0 x) (drop_all at x c.loop-at-test.false) r.1)
