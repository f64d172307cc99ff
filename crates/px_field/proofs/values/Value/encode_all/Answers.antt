use Rattle.std.proofs.Common.{◌≡◌, ◌∙◌, ◌*◌, ◌/◌, ℕ, length, flat_map, ap, sym, arith}
use Rattle.std.proofs.Math.Nat.{mul-div_cancel}
use Rattle.std.proofs.lemmas.List.{take_all}
use Rattle.px_field.specs.Forms.{size}
use Rattle.px_field.specs.Values.{IsValue, form_in, encode, encoded}
use Rattle.px_field.specs.lemmas.ElementLaws.{size_pos}
use Rattle.px_field.specs.lemmas.ValueLaws.{length_encoded}
use Rattle.px_field.proofs.ViewLemmas.{IsValue_shown}
use Rattle.px_field.proofs.values.Value.encode_all.Goals as goal

pub returns : goal.returns
unfolding encoded
returns c =
    let v = c.self.inside in
    let is : IsValue c.args.self.now =
    rw (← c.self.view_is) (IsValue_shown v.widened v.order v.form v.raw.now c.self.invariant.width c.self.invariant.bytes) in
    let es = c.args.self.now.elements in
    let width = size (form_in c.args.self.now.kind) in
    let long : length c.args.into.now ≡ length es * width = c.requires ∙ length_encoded c.args.order c.args.self.now is in
    let space : length c.args.into.now / width ≡ length es =
    ap (λ (n : ℕ). n / width) long ∙ mul-div_cancel (length es) (size_pos (form_in c.args.self.now.kind)) in
    let all : c.encode_many.result ≡ length es = omega (arith, c.encode_many.ensures.count, space) in
    let bytes : c.encode_many.result * width ≡ length c.args.into.now = ap (λ (n : ℕ). n * width) all ∙ sym long in
    sym (take_all (c.encode_many.result * width) c.encode_many.new.into (let h = c.encode_many.auto.into in omega arith))
    ∙ c.encode_many.ensures.front
    ∙ ap (flat_map (encode c.args.order)) (take_all c.encode_many.result es (omega arith))
