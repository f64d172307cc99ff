use Rattle.std.proofs.Common.{◌∙◌, ap, inl, inr, refl}
use Rattle.std.proofs.lemmas.Result.{err_from_is_err_and}
use Rattle.px_bytes.specs.Devices.{Calls, one_failed, one_flush}
use Rattle.px_meaning.specs.calls.Seen.{meaning_of}
use Rattle.px_layout.specs.calls.Forms.{meaning_in}
use Rattle.px_layout.proofs.writing.WriteNormal.{no_form, not_put, not_sent, not_flushed, normal_written}
use Rattle.px_layout.proofs.writing.WriteNormal.{once_sent, short_fits, short_has_form}
use Rattle.px_layout.proofs.write.write_normal_in.Goals as goal

pub returns-in_err-form-clause-form : goal.returns-in_err-form-clause-form
returns-in_err-form-clause-form g c =
    let p = err_from_is_err_and c.from_residual.result c.from_residual.ensures.1 in
    rw (p.1, p.2) (no_form (meaning_of c.args.m.now) _ _ _ c.in_err-form.ensures)

pub returns-in_err-put_normal-clause-form : goal.returns-in_err-put_normal-clause-form
returns-in_err-put_normal-clause-form g c =
    let p = err_from_is_err_and c.from_residual-in_err-put_normal.result c.from_residual-in_err-put_normal.ensures.1 in
    rw (p.1, p.2) (not_put (meaning_of c.args.m.now) (meaning_in c.in_ok-form.form) (g.W.Sink.bytes_taken c.args.writer.now)
    (g.W.Device.calls c.args.writer.now) c.new-pending.result c.in_ok-form.ensures.1 c.in_ok-form.ensures.2
    c.new-pending.ensures.none
    (g.W.Sink.bytes_taken c.put_normal.new.writer) _ c.in_err-put_normal.ensures.bytes.0 c.in_err-put_normal.ensures.bytes.1)

pub returns-in_err-send-clause-form : goal.returns-in_err-send-clause-form
returns-in_err-send-clause-form g c =
    let p = err_from_is_err_and c.from_residual-in_err-send.result c.from_residual-in_err-send.ensures.1 in
    rw (p.1, p.2) (not_sent (meaning_of c.args.m.now) (meaning_in c.in_ok-form.form) (g.W.Sink.bytes_taken c.args.writer.now)
    (g.W.Device.calls c.args.writer.now) c.new-pending.result c.in_ok-form.ensures.1 c.in_ok-form.ensures.2
    c.new-pending.ensures.none
    (g.W.Sink.bytes_taken c.put_normal.new.writer) (g.W.Sink.bytes_taken c.send.new.writer) c.put_normal.new.pending _
    c.in_ok-put_normal.ensures.bytes.0 c.in_err-send.ensures.bytes (c.in_err-send.ensures.count
    ∙ ap one_failed c.in_ok-put_normal.ensures.bytes.1))

pub returns-in_err-flush_all-clause-form : goal.returns-in_err-flush_all-clause-form
returns-in_err-flush_all-clause-form g c =
    let p = err_from_is_err_and c.from_residual-in_err-flush_all.result c.from_residual-in_err-flush_all.ensures.1 in
    rw (p.1, p.2) (not_flushed (meaning_of c.args.m.now) (meaning_in c.in_ok-form.form) (g.W.Sink.bytes_taken c.args.writer.now)
    (g.W.Device.calls c.args.writer.now) c.new-pending.result c.in_ok-form.ensures.1 c.in_ok-form.ensures.2
    c.new-pending.ensures.none
    (g.W.Sink.bytes_taken c.put_normal.new.writer) (g.W.Sink.bytes_taken c.send.new.writer) (g.W.Sink.bytes_taken c.flush_all.new.self)
    c.put_normal.new.pending _
    c.in_ok-put_normal.ensures.bytes.0 c.in_ok-send.ensures.bytes c.flush_all.ensures.bytes
    (c.in_err-flush_all.ensures.count
    ∙ ap (λ (k : Calls). one_failed (one_flush k)) (c.in_ok-send.ensures.count ∙ c.in_ok-put_normal.ensures.bytes.1)))

pub returns-clause-form : goal.returns-clause-form
returns-clause-form g c =
    normal_written (meaning_of c.args.m.now) (meaning_in c.in_ok-form.form) (g.W.Sink.bytes_taken c.args.writer.now)
    (g.W.Device.calls c.args.writer.now) c.new-pending.result c.in_ok-form.ensures.1 c.in_ok-form.ensures.2
    c.new-pending.ensures.none
    (g.W.Sink.bytes_taken c.put_normal.new.writer) (g.W.Sink.bytes_taken c.send.new.writer) (g.W.Sink.bytes_taken c.flush_all.new.self)
    c.put_normal.new.pending _ _
    c.len-len.ensures c.in_ok-put_normal.ensures.bytes.0 c.in_ok-send.ensures.bytes c.flush_all.ensures.bytes
    (c.in_ok-flush_all.ensures.count ∙ ap one_flush (c.in_ok-send.ensures.count ∙ c.in_ok-put_normal.ensures.bytes.1))

pub returns-in_err-form-clause-once : goal.returns-in_err-form-clause-once
returns-in_err-form-clause-once g c = λ short. absurd (short_has_form (meaning_of c.args.m.now) _ c.in_err-form.ensures short.1)

pub returns-in_err-put_normal-clause-once : goal.returns-in_err-put_normal-clause-once
returns-in_err-put_normal-clause-once g c = λ short.
    absurd (c.in_err-put_normal.ensures.waits (short_fits (meaning_of c.args.m.now) (meaning_in c.in_ok-form.form) c.new-pending.result
    c.in_ok-form.ensures.1 c.new-pending.ensures.none c.new-pending.ensures.capacity short))

pub returns-in_err-send-clause-once : goal.returns-in_err-send-clause-once
returns-in_err-send-clause-once g c = λ short. (
  c.send.new.writer,
  once_sent (meaning_of c.args.m.now) (meaning_in c.in_ok-form.form) c.new-pending.result
      c.in_ok-form.ensures.1 c.new-pending.ensures.none c.new-pending.ensures.capacity short g.W.Sink.wrote c.put_normal.new.pending _ _ _
      c.in_ok-put_normal.ensures.waits c.in_err-send.ensures.first,
  inl refl,
)

pub returns-in_err-flush_all-clause-once : goal.returns-in_err-flush_all-clause-once
returns-in_err-flush_all-clause-once g c = λ short. (
  c.send.new.writer,
  once_sent (meaning_of c.args.m.now) (meaning_in c.in_ok-form.form) c.new-pending.result
      c.in_ok-form.ensures.1 c.new-pending.ensures.none c.new-pending.ensures.capacity short g.W.Sink.wrote c.put_normal.new.pending _ _ _
      c.in_ok-put_normal.ensures.waits c.in_ok-send.ensures.first,
  inr c.flush_all.ensures.call,
)

pub returns-clause-once : goal.returns-clause-once
returns-clause-once g c = λ short. (
  c.send.new.writer,
  once_sent (meaning_of c.args.m.now) (meaning_in c.in_ok-form.form) c.new-pending.result
      c.in_ok-form.ensures.1 c.new-pending.ensures.none c.new-pending.ensures.capacity short g.W.Sink.wrote c.put_normal.new.pending _ _ _
      c.in_ok-put_normal.ensures.waits c.in_ok-send.ensures.first,
  inr c.flush_all.ensures.call,
)
