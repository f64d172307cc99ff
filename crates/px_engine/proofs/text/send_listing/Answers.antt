use Rattle.std.proofs.Common.{rules}
use Rattle.std.proofs.lemmas.Result.{err_from_is_err_and}
use Rattle.px_bytes.specs.Devices.{AppendsPrefix}
use Rattle.px_bytes.specs.lemmas.WaitingLaws.{from_none, owes_written}
use Rattle.px_engine.specs.Prints.{listing}
use Rattle.px_engine.specs.calls.Seen.{said_view}
use Rattle.px_engine.proofs.text.send_listing.Goals as goal

pub returns-in_err-put_listing-clause-text : goal.returns-in_err-put_listing-clause-text
returns-in_err-put_listing-clause-text g c =
    let p = err_from_is_err_and c.from_residual.result c.from_residual.ensures.1 in
    rw p.1 (
      from_none (AppendsPrefix (g.W.Sink.bytes_taken c.args.writer.now) (g.W.Sink.bytes_taken c.put_listing.new.writer))
          c.new-pending.result.bytes (listing (said_view c.args.meaning.now)) c.new-pending.ensures.none c.in_err-put_listing.ensures.0,
      search rules,
    )

pub returns-clause-text : goal.returns-clause-text
returns-clause-text g c = (
  owes_written c.send_and_flush.result _ _ _ c.new-pending.result c.put_listing.new.pending (listing (said_view c.args.meaning.now))
      c.new-pending.ensures.none c.in_ok-put_listing.ensures.0 c.send_and_flush.ensures.text.0,
  search rules,
)
