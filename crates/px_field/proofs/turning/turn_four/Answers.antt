use Rattle.std.proofs.Common.{◌≡◌, ◌+◌, ◌*◌, ◌-◌, length, take, drop, refl, ap, ◌∙◌, arith}
use Rattle.px_bytes.specs.Numbers.{number, spelling}
use Rattle.px_bytes.specs.lemmas.NumberLaws.{length_spelling}
use Rattle.px_field.proofs.TurnLaws.{turn_more}
use Rattle.px_field.specs.declared.turning.Width.TheVariants.{Four}
use Rattle.px_field.specs.calls.Turning.{turned}
use Rattle.px_field.proofs.turning.turn_four.Goals as goal

pub loop-i-preserved : goal.loop-i-preserved
loop-i-preserved c =
    let r = c.args.read in
    let o = c.args.write in
    let i = c.loop-i.i in
    let from = c.args.from.now in
    let len : (i * 4 + 4) - i * 4 ≡ 4 = omega arith in
    let long : length c.put32.new.bytes ≡ 4 = ap length c.put32.ensures ∙ length_spelling o 4 _ in
    turn_more (turned Four r o) 4 i (i * 4) (i * 4) _ _ (i + 1) from c.loop-i.to c.put32.new.bytes refl
    (c.put32.ensures ∙ ap (spelling o 4) (c.get32.ensures ∙ ap (λ n. number r 4 (take n (drop (i * 4) from))) len)) c.loop-i.invariant
    (omega arith) (omega arith) (omega arith)
