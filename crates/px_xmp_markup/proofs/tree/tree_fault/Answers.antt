use Rattle.std.proofs.Common.{◌≡◌, Some, length, drop, sym, ap, subst, ◌∙◌, inl, inr, arith, drop-drop, length-drop}
use Rattle.px_xmp_markup.specs.Kinds.{mark_view, mark}
use Rattle.px_xmp_markup.proofs.TreeFaultLaws.{Before, one_more, read_begins}
use Rattle.px_xmp_markup.proofs.tree.tree_fault.Goals as goal

pub returns-in-Some-pass : goal.returns-in-Some-pass
returns-in-Some-pass c =
    let x = c.args.octets.now in
    let at = c.loop-at.at in
    let m = mark_view c.in-Some.mark in
    let e : mark (drop at x) ≡ Some m = ap mark (sym c.split_at.ensures.back) ∙ sym c.in-Some.ensures.value in
    record {
      within = c.loop-at.invariant.within;
      before = c.loop-at.invariant.read.0;
      place = c.loop-at.nesting;
      marked = c.loop-at.invariant.read.1;
      leads = c.loop-at.invariant.read.2;
      wrong = inr (inl (m.kind, read_begins c.only_kinds_are_read.ensures (drop at x) m e, c.in-Some-pass.ensures));
    }

pub loop-at-preserved : goal.loop-at-preserved
loop-at-preserved c =
    let x = c.args.octets.now in
    let at = c.loop-at.at in
    let m = mark_view c.in-Some.mark in
    let back = c.split_at.ensures.back in
    let e : mark (drop at x) ≡ Some m = ap mark (sym back) ∙ sym c.in-Some.ensures.value in
    let p = c.loop-at.nesting in
    let q = c.pass.new.self in
    let read : Before x (drop m.size (drop at x)) q =
    one_more c.only_kinds_are_read.ensures x (drop at x) p q m c.loop-at.invariant.read e c.in_default-pass.ensures in
    record {
      within = omega (arith, c.in-Some.ensures.within, ap length back, length-drop at x, c.loop-at.invariant.within);
      read = subst (λ u. Before x u q) (drop-drop m.size at x) read;
    }
