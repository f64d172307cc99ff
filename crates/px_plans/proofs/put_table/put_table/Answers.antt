use Rattle.std.proofs.Common.{◌≡◌, length, ap, subst, rules}
use Rattle.std.proofs.lemmas.Result.{err_from_is_err_and}
use Rattle.px_bytes.specs.Numbers.{spelling}
use Rattle.px_bytes.specs.lemmas.WaitingLaws.{HasPut, puts_to_both}
use Rattle.px_plans.specs.calls.Layouts.{plan_of_layout, meaning_of_layout}
use Rattle.px_layout.specs.lemmas.PutLaws.{fails_as, puts_as, first_as, second_of}
use Rattle.px_layout.specs.lemmas.EntryBytes.{table_as}
use Rattle.px_plans.proofs.put_table.put_table.Goals as goal

pub returns-in_err-put_short : goal.returns-in_err-put_short
returns-in_err-put_short g c =
    let p = err_from_is_err_and c.from_residual.result c.from_residual.ensures.1 in
    let head : spelling c.args.layout.now.order 2 c.len.result ≡ spelling c.args.layout.now.order 2 (length c.args.entries.now) =
    ap (spelling c.args.layout.now.order 2) c.len.ensures in
    rw p.1 (
      first_as g.W.Sink.bytes_taken _ _ c.args.pending.now _ _ _ (table_as (plan_of_layout c.args.layout.now) c.args.layout.now.order
          c.args.layout.now.filler (meaning_of_layout c.args.layout.now) c.args.dir c.args.entries.now)
          (fails_as g.W.Sink.bytes_taken _ _ c.args.pending.now _ _ head c.in_err-put_short.ensures.0),
      search rules,
    )

pub returns-in_err-put_entries : goal.returns-in_err-put_entries
returns-in_err-put_entries g c =
    let p = err_from_is_err_and c.from_residual-in_err-put_entries.result c.from_residual-in_err-put_entries.ensures.1 in
    let head : spelling c.args.layout.now.order 2 c.len.result ≡ spelling c.args.layout.now.order 2 (length c.args.entries.now) =
    ap (spelling c.args.layout.now.order 2) c.len.ensures in
    rw p.1 (
      fails_as g.W.Sink.bytes_taken _ _ c.args.pending.now _ _ (table_as (plan_of_layout c.args.layout.now) c.args.layout.now.order
          c.args.layout.now.filler (meaning_of_layout c.args.layout.now) c.args.dir c.args.entries.now)
          (second_of g.W.Sink.bytes_taken _ _ _ c.args.pending.now c.put_short.new.pending
          (spelling c.args.layout.now.order 2 (length c.args.entries.now)) _ _
          (subst (HasPut g.W.Sink.bytes_taken c.args.writer.now c.put_short.new.writer c.args.pending.now c.put_short.new.pending) head
          c.in_ok-put_short.ensures.0)
          c.in_err-put_entries.ensures.0),
      search rules,
    )

pub returns : goal.returns
returns g c =
    let head : spelling c.args.layout.now.order 2 c.len.result ≡ spelling c.args.layout.now.order 2 (length c.args.entries.now) =
    ap (spelling c.args.layout.now.order 2) c.len.ensures in (
      puts_as g.W.Sink.bytes_taken c.put_next.result _ _ c.args.pending.now c.put_next.new.pending _ _
          (table_as (plan_of_layout c.args.layout.now) c.args.layout.now.order c.args.layout.now.filler (meaning_of_layout c.args.layout.now)
          c.args.dir c.args.entries.now)
          (puts_to_both g.W.Sink.bytes_taken c.put_next.result _ _ _ c.args.pending.now c.put_short.new.pending c.put_next.new.pending
          (spelling c.args.layout.now.order 2 (length c.args.entries.now)) _
          (subst (HasPut g.W.Sink.bytes_taken c.args.writer.now c.put_short.new.writer c.args.pending.now c.put_short.new.pending) head
          c.in_ok-put_short.ensures.0)
          (puts_to_both g.W.Sink.bytes_taken c.put_next.result _ _ _ c.put_short.new.pending c.put_entries.new.pending
          c.put_next.new.pending _ _
          c.in_ok-put_entries.ensures.0 c.put_next.ensures.0)),
      search rules,
    )
