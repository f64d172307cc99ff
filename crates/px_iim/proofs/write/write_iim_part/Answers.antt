use Rattle.std.proofs.Common.{length, arith, ◌∙◌, refl, ap}
use Rattle.std.proofs.lemmas.Result.{err_from_is_err_and}
use Rattle.px_bytes.specs.Devices.{AppendsPrefix, one_failed}
use Rattle.px_iim.specs.Record.{normal_iim}
use Rattle.std.specs.Io.KnownBytes.{Appends}
use Rattle.px_bytes.specs.lemmas.WaitingLaws.{fits_new, from_none, owed_prefix, owed_all, sent_once}
use Rattle.px_iim.proofs.writing.Writes.{within_most_number, not_counted}
use Rattle.px_iim.proofs.write.write_iim_part.Goals as goal

pub returns-then-len-gt-LIMIT-clause-form : goal.returns-then-len-gt-LIMIT-clause-form
returns-then-len-gt-LIMIT-clause-form g c = (
  not_counted c.normal_len.result (length (normal_iim c.args.iim.now)) c.unwrap_or-len.result c.normal_len.ensures
      c.unwrap_or-len.ensures c.if-len-gt-LIMIT.true,
  refl,
  refl,
)

pub returns-in_err-put_iim-clause-form : goal.returns-in_err-put_iim-clause-form
returns-in_err-put_iim-clause-form g c =
    let p = err_from_is_err_and c.from_residual.result c.from_residual.ensures.1 in
    let l = within_most_number c.normal_len.result (length (normal_iim c.args.iim.now)) c.unwrap_or-len.result c.normal_len.ensures
    c.unwrap_or-len.ensures c.if-len-gt-LIMIT.false in
    rw (p.1, p.2) (
      l.1,
      from_none (AppendsPrefix (g.W.Sink.bytes_taken c.args.writer.now) (g.W.Sink.bytes_taken c.put_iim.new.writer))
          c.new-pending.result.bytes (normal_iim c.args.iim.now) c.new-pending.ensures.none c.in_err-put_iim.ensures.bytes.0,
      c.in_err-put_iim.ensures.bytes.1,
    )

pub returns-in_err-send-clause-form : goal.returns-in_err-send-clause-form
returns-in_err-send-clause-form g c =
    let p = err_from_is_err_and c.from_residual-in_err-send.result c.from_residual-in_err-send.ensures.1 in
    let l = within_most_number c.normal_len.result (length (normal_iim c.args.iim.now)) c.unwrap_or-len.result c.normal_len.ensures
    c.unwrap_or-len.ensures c.if-len-gt-LIMIT.false in
    rw (p.1, p.2) (
      l.1,
      from_none (AppendsPrefix (g.W.Sink.bytes_taken c.args.writer.now) (g.W.Sink.bytes_taken c.send.new.writer)) c.new-pending.result.bytes
          (normal_iim c.args.iim.now) c.new-pending.ensures.none
          (owed_prefix _ _ _ _ _ c.in_ok-put_iim.ensures.bytes.0 c.in_err-send.ensures.bytes),
      c.in_err-send.ensures.count
          ∙ ap one_failed c.in_ok-put_iim.ensures.bytes.1,
    )

pub returns-clause-form : goal.returns-clause-form
returns-clause-form g c =
    let l = within_most_number c.normal_len.result (length (normal_iim c.args.iim.now)) c.unwrap_or-len.result c.normal_len.ensures
    c.unwrap_or-len.ensures c.if-len-gt-LIMIT.false in (
      from_none (Appends (g.W.Sink.bytes_taken c.args.writer.now) (g.W.Sink.bytes_taken c.send.new.writer)) c.new-pending.result.bytes
          (normal_iim c.args.iim.now) c.new-pending.ensures.none
          (owed_all _ _ _ _ _ c.in_ok-put_iim.ensures.bytes.0 c.in_ok-send.ensures.bytes),
      c.from.ensures ∙ l.0,
      omega (arith, c.from.ensures, l),
      c.in_ok-send.ensures.count
          ∙ c.in_ok-put_iim.ensures.bytes.1,
    )

pub returns-then-len-gt-LIMIT-clause-once : goal.returns-then-len-gt-LIMIT-clause-once
returns-then-len-gt-LIMIT-clause-once g c = λ short.
    let long = not_counted c.normal_len.result (length (normal_iim c.args.iim.now)) c.unwrap_or-len.result c.normal_len.ensures
    c.unwrap_or-len.ensures c.if-len-gt-LIMIT.true in
    absurd (omega (arith, long, short.1))

pub returns-in_err-put_iim-clause-once : goal.returns-in_err-put_iim-clause-once
returns-in_err-put_iim-clause-once g c = λ short.
    absurd (c.in_err-put_iim.ensures.waits (fits_new c.new-pending.result (normal_iim c.args.iim.now) c.new-pending.ensures.none
    c.new-pending.ensures.capacity short.1))

pub returns-in_err-send-clause-once : goal.returns-in_err-send-clause-once
returns-in_err-send-clause-once g c = λ short.
    let h = c.new-pending.result in
    let form = normal_iim c.args.iim.now in
    let put = c.in_ok-put_iim.ensures.waits (fits_new h form c.new-pending.ensures.none c.new-pending.ensures.capacity short.1) in
    sent_once g.W.Sink.wrote h c.put_iim.new.pending form _ _ _ c.new-pending.ensures.none put.0 put.1 short.0 c.in_err-send.ensures.first

pub returns-clause-once : goal.returns-clause-once
returns-clause-once g c = λ short.
    let h = c.new-pending.result in
    let form = normal_iim c.args.iim.now in
    let put = c.in_ok-put_iim.ensures.waits (fits_new h form c.new-pending.ensures.none c.new-pending.ensures.capacity short.1) in
    sent_once g.W.Sink.wrote h c.put_iim.new.pending form _ _ _ c.new-pending.ensures.none put.0 put.1 short.0 c.in_ok-send.ensures.first
