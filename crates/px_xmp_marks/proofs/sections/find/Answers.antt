use Rattle.std.proofs.Common.{◌+◌, ℕ, List, drop, nat_eq, sym, ap, ◌∙◌, arith, drop-drop, length-drop}
use Rattle.std.specs.List.{starts_with}
use Rattle.px_xmp_marks.specs.Sections.{find}
use Rattle.px_xmp_marks.proofs.SectionLaws.{find_at, find_on}
use Rattle.px_xmp_marks.proofs.sections.find.Goals as goal

pub returns-then-starts_with-clause-value : goal.returns-then-starts_with-clause-value
returns-then-starts_with-clause-value c =
    let xs = c.args.octets.now in
    let w = c.args.mark.now in
    let n = c.loop-n.n in
    let l = length-drop n xs in
    let e = ap (λ (y : List ℕ). starts_with nat_eq y w) (sym c.split_at.ensures.back) ∙ sym c.starts_with.ensures.value ∙ c.if-starts_with.true in
    sym (find_at w n (drop n xs) (omega (arith, c.loop-n-test.true)) e) ∙ c.loop-n.invariant

pub loop-n-preserved : goal.loop-n-preserved
loop-n-preserved c =
    let xs = c.args.octets.now in
    let w = c.args.mark.now in
    let n = c.loop-n.n in
    let l = length-drop n xs in
    let e = ap (λ (y : List ℕ). starts_with nat_eq y w) (sym c.split_at.ensures.back) ∙ sym c.starts_with.ensures.value ∙ c.if-starts_with.false in
    ap (λ (y : List ℕ). find w (n + 1) y) (sym (drop-drop 1 n xs))
    ∙ sym (find_on w n (n + 1) (drop n xs) (omega arith) (omega (arith, c.loop-n-test.true)) e) ∙ c.loop-n.invariant
