use Rattle.std.proofs.Common.{rules}
use Rattle.std.proofs.lemmas.Result.{err_from_is_err_and}
use Rattle.px_bytes.specs.Devices.{AppendsPrefix}
use Rattle.px_bytes.specs.lemmas.WaitingLaws.{from_none, owes_written}
use Rattle.px_plans.specs.calls.Building.{piece_bytes}
use Rattle.px_plans.proofs.building.write_piece.Goals as goal

pub returns-in_err-put_piece : goal.returns-in_err-put_piece
returns-in_err-put_piece g c =
    let p = err_from_is_err_and c.from_residual.result c.from_residual.ensures.1 in
    rw p.1 (
      from_none (AppendsPrefix (g.W.Sink.bytes_taken c.args.writer.now) (g.W.Sink.bytes_taken c.put_piece.new.writer))
          c.new-pending.result.bytes (piece_bytes c.args.layout.now c.args.piece) c.new-pending.ensures.none
          c.in_err-put_piece.ensures.0.0,
      search rules,
    )

pub returns : goal.returns
returns g c = (
  owes_written c.send.result _ _ _ c.new-pending.result c.put_piece.new.pending (piece_bytes c.args.layout.now c.args.piece)
      c.new-pending.ensures.none c.in_ok-put_piece.ensures.0.0 c.send.ensures.bytes,
  search rules,
)
