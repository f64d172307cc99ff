use Rattle.std.proofs.Common.{◌≡◌, ◌+◌, ◌*◌, ◌-◌, length, take, drop, refl, ap, ◌∙◌, arith}
use Rattle.px_bytes.specs.Numbers.{number, spelling}
use Rattle.px_bytes.specs.lemmas.NumberLaws.{length_spelling}
use Rattle.px_field.proofs.TurnLaws.{turn_more}
use Rattle.px_field.specs.declared.turning.Width.TheVariants.{Eight}
use Rattle.px_field.specs.calls.Turning.{turned}
use Rattle.px_field.proofs.turning.turn_eight.Goals as goal

pub loop-i-preserved : goal.loop-i-preserved
loop-i-preserved c =
    let r = c.args.read in
    let o = c.args.write in
    let i = c.loop-i.i in
    let from = c.args.from.now in
    let len : (i * 8 + 8) - i * 8 ≡ 8 = omega arith in
    let long : length c.put64.new.bytes ≡ 8 = ap length c.put64.ensures ∙ length_spelling o 8 _ in
    turn_more (turned Eight r o) 8 i (i * 8) (i * 8) _ _ (i + 1) from c.loop-i.to c.put64.new.bytes refl
    (c.put64.ensures ∙ ap (spelling o 8) (c.get64.ensures ∙ ap (λ n. number r 8 (take n (drop (i * 8) from))) len)) c.loop-i.invariant
    (omega arith) (omega arith) (omega arith)
