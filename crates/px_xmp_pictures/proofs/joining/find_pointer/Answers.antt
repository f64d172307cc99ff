use Rattle.std.proofs.Common.{◌∙◌, ◌+◌, sym, ap, arith, ℕ, List}
use Rattle.std.specs.Prelude.{nat_eq}
use Rattle.std.specs.List.{starts_with}
use Rattle.px_xmp_pictures.specs.Joined.{label, before_part}
use Rattle.px_xmp_pictures.proofs.CutLaws.{cut_whole}
use Rattle.px_xmp_pictures.proofs.PointerLaws.{part_later, part_first, named_at}
use Rattle.px_xmp_pictures.proofs.joining.find_pointer.Goals as goal

pub returns-then-starts_with : goal.returns-then-starts_with
returns-then-starts_with c =
    named_at c.pointer_at.result c.args.form.now c.split_at.result.0.now c.split_at.result.1.now
    (cut_whole c.args.form.now c.split_at.result.0.now c.split_at.result.1.now c.loop-n.n c.split_at.ensures.front
    (sym c.split_at.ensures.back))
    (c.split_at.ensures.front
    ∙ part_first label c.args.form.now c.loop-n.n
    (ap (λ (z : List ℕ). starts_with nat_eq z label) (sym c.split_at.ensures.back) ∙ sym c.starts_with.ensures.value
    ∙ c.if-starts_with.true)
    c.loop-n.invariant)
    c.pointer_at.ensures.front c.pointer_at.ensures.named

pub loop-n-preserved : goal.loop-n-preserved
loop-n-preserved c =
    part_later label c.args.form.now (before_part label c.args.form.now) c.loop-n.n (c.loop-n.n + 1) (omega arith) c.loop-n-test.true
    (ap (λ (z : List ℕ). starts_with nat_eq z label) (sym c.split_at.ensures.back) ∙ sym c.starts_with.ensures.value
    ∙ c.if-starts_with.false)
    c.loop-n.invariant
