use Rattle.px_bytes.specs.lemmas.WaitingLaws.{puts_written}
use Rattle.px_bytes.proofs.pending.Pending.put_past.Goals as goal

pub returns-then-bytes-free-clause-bytes : goal.returns-then-bytes-free-clause-bytes
returns-then-bytes-free-clause-bytes g c =
    puts_written c.write_whole.result _ _ _ c.args.self.now c.send.new.self c.args.bytes.now c.in_ok-send.ensures.none
    c.in_ok-send.ensures.bytes c.write_whole.ensures.bytes
