use Rattle.std.proofs.Common.{◌∙◌, sym, ◌-◌, arith}
use Rattle.px_xmp_forms.proofs.EndLaws.{end_after}
use Rattle.px_xmp_forms.proofs.spaces.last_part.Goals as goal

pub returns-then-not-is_name_char-clause-name : goal.returns-then-not-is_name_char-clause-name
returns-then-not-is_name_char-clause-name c =
    (end_after c.args.space.now (c.loop-start.start - 1) c.loop-start.start 0
    (omega (arith, c.loop-start-test.true, c.loop-start.invariant.within)) (sym c.is_name_char.ensures ∙ c.if-not-is_name_char.true)
    (omega (arith, c.loop-start-test.true))).0

pub returns-then-not-is_name_char-clause-before : goal.returns-then-not-is_name_char-clause-before
returns-then-not-is_name_char-clause-before c =
    (end_after c.args.space.now (c.loop-start.start - 1) c.loop-start.start 0
    (omega (arith, c.loop-start-test.true, c.loop-start.invariant.within)) (sym c.is_name_char.ensures ∙ c.if-not-is_name_char.true)
    (omega (arith, c.loop-start-test.true))).1
