use Rattle.std.proofs.Common.{◌≡◌, ◌+◌, ◌*◌, ◌-◌, length, take, drop, refl, ap, ◌∙◌, arith}
use Rattle.px_field.proofs.TurnLaws.{turn_more, length_pair}
use Rattle.px_field.specs.declared.turning.Width.TheVariants.{Pair}
use Rattle.px_field.specs.calls.Turning.{turned}
use Rattle.px_field.proofs.turning.turn_pairs.Goals as goal

pub loop-i-preserved : goal.loop-i-preserved
loop-i-preserved c =
    let r = c.args.read in
    let o = c.args.write in
    let i = c.loop-i.i in
    let from = c.args.from.now in
    let len : (i * 8 + 8) - i * 8 ≡ 8 = omega arith in
    let long : length c.turn_pair.new.to ≡ 8 = ap length c.turn_pair.ensures ∙ length_pair o _ _ in
    turn_more (turned Pair r o) 8 i (i * 8) (i * 8) _ _ (i + 1) from c.loop-i.to c.turn_pair.new.to refl
    (c.turn_pair.ensures ∙ ap (λ n. turned Pair r o (take n (drop (i * 8) from))) len) c.loop-i.invariant (omega arith) (omega arith)
    (omega arith)
