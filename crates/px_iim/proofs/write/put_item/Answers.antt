use Rattle.std.proofs.Common.{ℕ, List, take, subst, rules}
use Rattle.std.proofs.lemmas.Result.{err_from_is_err_and}
use Rattle.px_bytes.specs.Waiting.{PutsBuffered}
use Rattle.px_bytes.specs.lemmas.WaitingLaws.{FailsPut, puts_to_both, fails_first}
use Rattle.px_iim.proofs.writing.Writes.{head_and_data}
use Rattle.px_iim.proofs.write.put_item.Goals as goal

pub returns-in_err-put : goal.returns-in_err-put
returns-in_err-put g c =
    let p = err_from_is_err_and c.from_residual.result c.from_residual.ensures.1 in
    let h = take c.head-len.result.1 c.head-len.result.0 in
    let octets = c.args.item.now.octets.now in
    rw p.1 (
      subst (FailsPut g.W.Sink.bytes_taken c.args.writer.now c.put.new.writer c.args.pending.now)
          (head_and_data c.args.rec c.args.item.now.number octets h c.head-len.ensures.encoded)
          (fails_first g.W.Sink.bytes_taken _ _ c.args.pending.now h octets (c.in_err-put.ensures.bytes, c.in_err-put.ensures.waits)),
      search rules,
    )

pub returns : goal.returns
returns g c =
    let h = take c.head-len.result.1 c.head-len.result.0 in
    let octets = c.args.item.now.octets.now in (
      subst (λ (o : List ℕ). PutsBuffered g.W.Sink.bytes_taken c.put-2.result c.args.writer.now c.put-2.new.writer c.args.pending.now
          c.put-2.new.self o)
          (head_and_data c.args.rec c.args.item.now.number octets h c.head-len.ensures.encoded)
          (puts_to_both g.W.Sink.bytes_taken c.put-2.result _ _ _ c.args.pending.now c.put.new.self c.put-2.new.self h octets
          (c.in_ok-put.ensures.bytes, c.in_ok-put.ensures.waits) (c.put-2.ensures.bytes, c.put-2.ensures.waits)),
      search rules,
    )
