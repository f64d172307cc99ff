use Rattle.std.proofs.Common.{ℕ, ◌+◌, List, map, drop, subst, sym, ap₂}
use Rattle.px_bytes.specs.Range.{Range}
use Rattle.px_meaning.specs.Thumbnail.{whole_number, ranges_of}
use Rattle.px_meaning.specs.calls.Strips.{Rise}
use Rattle.px_tree.proofs.reading.StripRanges.{ranges_next}
use Rattle.px_tree.proofs.rising.rising_span.Goals as goal

pub loop-i-preserved : goal.loop-i-preserved
loop-i-preserved c =
    let xs = map whole_number c.args.lists.now.starts.elements in
    let ns = map whole_number c.args.lists.now.sizes.elements in
    let is = ranges_next xs ns c.loop-i.i c.number_in-from.result c.number_in.result c.number_in-from.ensures c.number_in.ensures in
    let end = ap₂ (λ (m n : ℕ). m + n) c.from.ensures c.from-in-loop-i.ensures in
    record {
      inside = c.if-to-len.false;
      rise = λ high h. c.loop-i.invariant.rise high (subst (λ (rs : List Range). Rise c.loop-i.end high rs) (sym is) (
        c.if-from-end.false,
        subst (λ (k : ℕ). Rise k high (ranges_of (drop (c.loop-i.i + 1) xs) (drop (c.loop-i.i + 1) ns))) end h,
      ));
    }
