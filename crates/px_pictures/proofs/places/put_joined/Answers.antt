use Rattle.std.proofs.Common.{◌≤◌, ◌+◌, ◌-◌, ℕ, List, ap, ap₂, arith, length}
use Rattle.px_jpeg.specs.declared.Piece.{Piece}
use Rattle.px_pictures.specs.calls.Runs.{joined_octets}
use Rattle.px_pictures.proofs.PlaceLaws.{length_more, put_at, put_front, put_after}
use Rattle.px_pictures.proofs.places.put_joined.Goals as goal

pub loop-piece-preserved : goal.loop-piece-preserved
loop-piece-preserved c =
    let b = c.bytes-bytes.result.now in
    let at = c.loop-piece.at in
    let x = c.range-octets.result.now in
    let more = length_more b c.in-Some.piece c.next_joined.new.left c.loop-piece.left c.in-Some.ensures in
    let n = ap (λ (z : List ℕ). length z) c.range-octets.ensures in
    let fits : at + length x ≤ length c.loop-piece.out =
    omega (
      arith,
      c.requires,
      c.loop-piece.invariant.counted,
      c.loop-piece.invariant.long,
      more,
      n,
      ap₂ (λ (z : List ℕ) (ps : List Piece). length (joined_octets z ps)) c.bytes-bytes.ensures c.pieces_left-left.ensures,
    ) in
    let put = put_at at (at + length x - at) c.loop-piece.out c.copy_from_slice.new.self x c.copy_from_slice.ensures.after (omega arith) fits in
    record {
      counted = omega (arith, c.loop-piece.invariant.counted, more, n);
      long = omega (arith, put.long, c.loop-piece.invariant.long);
      put = put_front b at c.loop-piece.out _ x _ c.in-Some.piece c.next_joined.new.left c.loop-piece.left put c.range-octets.ensures
          c.in-Some.ensures c.loop-piece.invariant.put;
      later = put_after at c.args.out.now c.loop-piece.out _ x put c.loop-piece.invariant.later;
    }
