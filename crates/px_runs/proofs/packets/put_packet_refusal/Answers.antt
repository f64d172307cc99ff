use Rattle.std.proofs.Common.{rules}
use Rattle.std.proofs.Common.{codes}
use Rattle.std.specs.Prelude.{decimal}
use Rattle.std.proofs.lemmas.Result.{err_from_is_err_and}
use Rattle.px_xmp_forms.specs.Causes.{is_rare, name_of}
use Rattle.px_runs.specs.Packets.{end_of_packet}
use Rattle.px_runs.proofs.LineLaws.{stops_first, stops_second, stops_third, stops_fourth, puts_all}
use Rattle.px_runs.proofs.packets.put_packet_refusal.Goals as goal

pub returns-in_err-put : goal.returns-in_err-put
returns-in_err-put g c =
    let p = err_from_is_err_and c.from_residual.result c.from_residual.ensures.1 in
    rw p.1 (
      stops_first (codes "refused: ") (name_of c.args.cause) (codes " at ") (decimal c.args.place) (end_of_packet (is_rare c.args.cause)) _ _
          (g.L.Sink.bytes_taken c.args.lines.now) (g.L.Sink.bytes_taken c.args.lines.now) (g.L.Sink.bytes_taken c.args.lines.now)
          c.args.pending.now c.args.pending.now c.args.pending.now c.args.pending.now c.args.pending.now c.in_err-put.ensures.bytes,
      search rules,
    )

pub returns-in_err-put-2 : goal.returns-in_err-put-2
returns-in_err-put-2 g c =
    let p = err_from_is_err_and c.from_residual-in_err-put-2.result c.from_residual-in_err-put-2.ensures.1 in
    rw p.1 (
      stops_second (codes "refused: ") (name_of c.args.cause) (codes " at ") (decimal c.args.place) (end_of_packet (is_rare c.args.cause)) _ _ _
          (g.L.Sink.bytes_taken c.args.lines.now) (g.L.Sink.bytes_taken c.args.lines.now) c.args.pending.now _
          c.args.pending.now c.args.pending.now c.args.pending.now
          c.in_ok-put.ensures.bytes (rw c.name.ensures at c.in_err-put-2.ensures.bytes),
      search rules,
    )

pub returns-in_err-put-3 : goal.returns-in_err-put-3
returns-in_err-put-3 g c =
    let p = err_from_is_err_and c.from_residual-in_err-put-3.result c.from_residual-in_err-put-3.ensures.1 in
    rw p.1 (
      stops_third (codes "refused: ") (name_of c.args.cause) (codes " at ") (decimal c.args.place) (end_of_packet (is_rare c.args.cause)) _ _ _ _
          (g.L.Sink.bytes_taken c.args.lines.now) c.args.pending.now _ _ c.args.pending.now c.args.pending.now c.in_ok-put.ensures.bytes
          (rw c.name.ensures at c.in_ok-put-2.ensures.bytes) c.in_err-put-3.ensures.bytes,
      search rules,
    )

pub returns-in_err-put-4 : goal.returns-in_err-put-4
returns-in_err-put-4 g c =
    let p = err_from_is_err_and c.from_residual-in_err-put-4.result c.from_residual-in_err-put-4.ensures.1 in
    rw p.1 (
      stops_fourth (codes "refused: ") (name_of c.args.cause) (codes " at ") (decimal c.args.place) (end_of_packet (is_rare c.args.cause)) _ _ _ _ _
          c.args.pending.now _ _ _ c.args.pending.now c.in_ok-put.ensures.bytes (rw c.name.ensures at c.in_ok-put-2.ensures.bytes)
          c.in_ok-put-3.ensures.bytes (rw (c.as_bytes.ensures.value, c.format.ensures.text) at c.in_err-put-4.ensures.bytes),
      search rules,
    )

pub returns : goal.returns
returns g c = (
  puts_all (codes "refused: ") (name_of c.args.cause) (codes " at ") (decimal c.args.place) (end_of_packet (is_rare c.args.cause)) _ _ _ _ _
      c.args.pending.now _ _ _ _ c.in_ok-put.ensures.bytes (rw c.name.ensures at c.in_ok-put-2.ensures.bytes) c.in_ok-put-3.ensures.bytes
      _ _ _ (rw (c.as_bytes.ensures.value, c.format.ensures.text) at c.in_ok-put-4.ensures.bytes)
      (rw (c.packet_ending.ensures, c.is_rare.ensures) at c.put-5.ensures.bytes),
  search rules,
)
