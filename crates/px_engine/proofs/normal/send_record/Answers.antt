use Rattle.std.proofs.Common.{rules}
use Rattle.px_iim.specs.Record.{normal_iim}
use Rattle.px_bytes.specs.lemmas.WaitingLaws.{owes_written}
use Rattle.px_engine.proofs.normal.send_record.Goals as goal

pub returns : goal.returns
returns g c = (
  owes_written c.send.result _ _ _ c.over-pending.result c.put_iim.new.pending (normal_iim c.args.iim.now)
      c.over-pending.ensures.none c.in_ok-put_iim.ensures.bytes.0 c.send.ensures.bytes,
  search rules,
)
