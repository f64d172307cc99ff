use Rattle.std.proofs.Common.{◌≡◌, ◌∙◌, ◌++◌, ℕ, List, length, map, take, flat_map, ap, sym, subst, arith}
use Rattle.std.proofs.lemmas.List.{length-map}
use Rattle.px_field.specs.declared.Element.TheVariants.{Long}
use Rattle.px_field.specs.Forms.{size}
use Rattle.px_field.specs.Values.{Value, form_in, encode}
use Rattle.px_layout.proofs.writing.Longs.{encode_first}
use Rattle.px_layout.proofs.put_strips.encode_lengths.Goals as goal

abbrev count : List ℕ → ℕ
count x = length x

pub encode_longs-requires-clause-width : goal.encode_longs-requires-clause-width
encode_longs-requires-clause-width c = ap (λ (v : Value). size (form_in v.kind)) c.in-Some.ensures

pub encode_longs-requires-clause-inside : goal.encode_longs-requires-clause-inside
encode_longs-requires-clause-inside c =
    let ns = map count c.args.strips.now in
    let l = ap (λ (v : Value). length v.elements) c.in-Some.ensures in
    let m = length-map ns Long in
    let n = length-map c.args.strips.now count in
    let h = c.requires.inside in
    omega arith

pub returns-in-Some : goal.returns-in-Some
returns-in-Some c =
    let o = c.args.order in
    let ns = map count c.args.strips.now in
    let bytes = c.encode_longs.new.into in
    sym (encode_first o c.args.end ns)
    ∙ subst (λ (v : Value). flat_map (encode o) (take c.args.end v.elements) ≡ flat_map (encode o) (take c.args.start v.elements) ++ bytes)
    c.in-Some.ensures c.encode_longs.ensures
    ∙ ap (λ (x : List ℕ). x ++ bytes) (encode_first o c.args.start ns)
