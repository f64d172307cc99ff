use Rattle.std.proofs.Common.{◌≡◌, ◌∙◌, ◌≤◌, ◌-◌, ◌*◌, ◌/◌, ℕ, length, take, drop, flat_map, ap, ap₂, sym, arith}
use Rattle.std.proofs.lemmas.List.{take_all}
use Rattle.px_field.specs.Forms.{size}
use Rattle.px_field.specs.Values.{form_in, encode}
use Rattle.px_layout.proofs.writing.StripPieces.{piece_of}
use Rattle.px_layout.proofs.put_strips.encode_longs.Goals as goal

pub returns : goal.returns
returns c =
    let v = c.args.longs.now in
    let count = c.args.end - c.args.start in
    let bytes = c.encode_many.new.into in
    let width = c.requires.width in
    let space : length c.args.into.now / size (form_in v.kind) ≡ count =
    ap (λ (n : ℕ). length c.args.into.now / n) width ∙ (let r = c.requires.space in omega arith) in
    let all : c.encode_many.result ≡ count = omega (arith, c.encode_many.ensures.count, space, c.requires.inside) in
    let whole : c.encode_many.result * size (form_in v.kind) ≡ count * 4 = ap₂ (λ (m n : ℕ). m * n) all width in
    let long : length bytes ≤ count * 4 = (let r = c.requires.space in let h = c.encode_many.auto.into in omega arith) in
    piece_of (encode c.args.order) v.elements c.args.start c.args.end bytes c.requires.rising
    (sym (ap (λ (n : ℕ). take n bytes) whole ∙ take_all (count * 4) bytes long) ∙ c.encode_many.ensures.front
    ∙ ap (λ (n : ℕ). flat_map (encode c.args.order) (take n (drop c.args.start v.elements))) all)
