use Rattle.std.proofs.Common.{◌≤◌, ◌<◌, ◌+◌, ◌^◌, ℕ, List, ap, ap₂, arith, length, rules}
use Rattle.px_jpeg.specs.declared.Piece.{Piece}
use Rattle.px_pictures.specs.calls.Runs.{joined_octets}
use Rattle.px_pictures.proofs.PlaceLaws.{joined_few, length_more}
use Rattle.px_pictures.proofs.places.joined_len.Goals as goal

pub overflow_add-len : goal.overflow_add-len
overflow_add-len c =
    let b = c.bytes-bytes.result.now in
    let l : length b < 2 ^ 63 = search rules in
    omega (
      arith,
      l,
      joined_few c.args.front.now.octets c.args.front.now.parts c.requires,
      ap (λ (x : List ℕ). length x) c.bytes-bytes.ensures,
      c.loop-piece.invariant,
      length_more b c.in-Some.piece c.next_joined.new.left c.loop-piece.left c.in-Some.ensures,
      ap (λ (x : List ℕ). length x) c.range.ensures,
      ap₂ (λ (x : List ℕ) (ps : List Piece). length (joined_octets x ps)) c.bytes-bytes.ensures c.pieces_left-left.ensures,
    )

pub returns-in_default-clause-few : goal.returns-in_default-clause-few
returns-in_default-clause-few c =
    omega (
      arith,
      joined_few c.args.front.now.octets c.args.front.now.parts c.requires,
      c.loop-piece.invariant,
      ap₂ (λ (x : List ℕ) (ps : List Piece). length (joined_octets x ps)) c.bytes-bytes.ensures c.pieces_left-left.ensures,
    )
