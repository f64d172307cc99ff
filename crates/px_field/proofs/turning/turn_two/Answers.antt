use Rattle.std.proofs.Common.{◌≡◌, ◌+◌, ◌*◌, ◌-◌, length, take, drop, refl, ap, ◌∙◌, arith}
use Rattle.px_bytes.specs.Numbers.{number, spelling}
use Rattle.px_bytes.specs.lemmas.NumberLaws.{length_spelling}
use Rattle.px_field.proofs.TurnLaws.{turn_more}
use Rattle.px_field.specs.declared.turning.Width.TheVariants.{Two}
use Rattle.px_field.specs.calls.Turning.{turned}
use Rattle.px_field.proofs.turning.turn_two.Goals as goal

pub loop-i-preserved : goal.loop-i-preserved
loop-i-preserved c =
    let r = c.args.read in
    let o = c.args.write in
    let i = c.loop-i.i in
    let from = c.args.from.now in
    let len : (i * 2 + 2) - i * 2 ≡ 2 = omega arith in
    let long : length c.put16.new.bytes ≡ 2 = ap length c.put16.ensures ∙ length_spelling o 2 _ in
    turn_more (turned Two r o) 2 i (i * 2) (i * 2) _ _ (i + 1) from c.loop-i.to c.put16.new.bytes refl
    (c.put16.ensures ∙ ap (spelling o 2) (c.get16.ensures ∙ ap (λ n. number r 2 (take n (drop (i * 2) from))) len)) c.loop-i.invariant
    (omega arith) (omega arith) (omega arith)
