use Rattle.std.proofs.Common.{◌≡◌, ◌<◌, ◌+◌, ◌*◌, ◌++◌, ◌∙◌, List, ℕ, length, take, flat_map, get_or, slice_get, Some, sym, ap, append_assoc}
use Rattle.std.proofs.Common.{arith}
use Rattle.std.proofs.Math.Nat.{mul-le-mul_right}
use Rattle.std.specs.Prelude.{vec_len}
use Rattle.px_field.specs.Forms.{size}
use Rattle.std.proofs.lemmas.Grind.{common_steps}
use Rattle.std.proofs.lemmas.List.{take_all}
use Rattle.std.proofs.lemmas.Option.{slice_get-get_or}
use Rattle.px_field.specs.declared.forms.Element.{Element}
use Rattle.px_field.specs.declared.forms.Element.TheVariants as element
use Rattle.px_field.specs.Values.{form_in, encode, encoded}
use Rattle.px_field.specs.lemmas.ValueLaws.{encode_take}
use Rattle.px_field.proofs.spelling.append_elements.Goals as goal

pub loop-i-preserved : goal.loop-i-preserved
loop-i-preserved c =
    let o = c.args.order in
    let es = c.args.value.now.elements in
    let i = c.loop-i.i in
    let inside : i < length es = omega arith in
    let e : Element = get_or es i (element.Byte 0) in
    let here : slice_get es i ≡ Some e = slice_get-get_or es i (element.Byte 0) inside in
    let piece = take c.spell_at-width.result c.spell_at-width.new.into in
    let width = size (form_in c.args.value.now.kind) in
    let longer : vec_len c.extend_from_slice.new.list ≡ vec_len c.args.out.now + (i + 1) * width = grind (
      arith,
      common_steps,
      c.spell_at-width.array_long,
      c.loop-i.invariant.len,
      c.spell_at-width.ensures.width,
      c.in_ok-extend_from_slice.ensures.len,
    ) in
    let wide = mul-le-mul_right {m = i + 1} {n = length es} width (omega arith) in
    record {
      items = c.in_ok-extend_from_slice.ensures.items
          ∙ ap (λ (l : List ℕ). l ++ piece) c.loop-i.invariant.items
          ∙ append_assoc c.args.out.now.items (flat_map (encode o) (take i es)) piece
          ∙ ap (λ (l : List ℕ). c.args.out.now.items ++ l) (ap (λ (l : List ℕ). flat_map (encode o) (take i es) ++ l)
          (c.spell_at-width.ensures.front e here) ∙ sym (encode_take o es i (i + 1) e here (omega arith)));
      len = longer;
      space = omega (arith, c.loop-i.invariant.space, c.in_ok-extend_from_slice.ensures.capacity);
      memory = c.in_ok-extend_from_slice.ensures.memory ∙ c.loop-i.invariant.memory;
      asked = c.in_ok-extend_from_slice.ensures.fits (omega (
        arith,
        longer,
        wide,
        c.in_ok-extend_from_slice.ensures.len,
        c.loop-i.invariant.space,
      )) ∙ c.loop-i.invariant.asked;
    }

pub returns-clause-done : goal.returns-clause-done
unfolding encoded
returns-clause-done c =
    let es = c.args.value.now.elements in
    let all : take c.loop-i.i es ≡ es = take_all c.loop-i.i es (omega arith) in
    c.loop-i.invariant.items ∙ ap (λ (l : List Element). c.args.out.now.items ++ flat_map (encode c.args.order) l) all
