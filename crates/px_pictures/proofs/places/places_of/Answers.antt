use Rattle.std.proofs.Common.{◌<◌, ◌^◌, ℕ, List, ap, arith, length, rules}
use Rattle.px_pictures.proofs.PlaceLaws.{front_placed}
use Rattle.px_pictures.proofs.places.places_of.Goals as goal

pub invariant_of-result : goal.invariant_of-result
invariant_of-result c =
    let l : length c.bytes-bytes.result.now < 2 ^ 63 = search rules in
    let h = front_placed c.args.front.now.octets c.args.front.now.parts c.pieces_left.result c.requires
    (omega (arith, l, ap (λ (x : List ℕ). length x) c.bytes-bytes.ensures)) c.pieces_left.ensures in
    (h.begins, h.sizes, h.few)

pub returns : goal.returns
returns c =
    let l : length c.bytes-bytes.result.now < 2 ^ 63 = search rules in
    (front_placed c.args.front.now.octets c.args.front.now.parts c.pieces_left.result c.requires
    (omega (arith, l, ap (λ (x : List ℕ). length x) c.bytes-bytes.ensures)) c.pieces_left.ensures).places
