use Rattle.std.proofs.Common.{rules}
use Rattle.std.proofs.lemmas.Result.{err_from_is_err_and}
use Rattle.px_layout.specs.calls.Items.{entry_of}
use Rattle.px_plans.specs.calls.Layouts.{plan_of_layout}
use Rattle.px_layout.specs.lemmas.PutLaws.{both_as, first_as}
use Rattle.px_layout.specs.lemmas.EntryBytes.{entry_as}
use Rattle.px_plans.proofs.put_item.put_entry.Goals as goal

pub returns-in_err-put : goal.returns-in_err-put
returns-in_err-put g c =
    let p = err_from_is_err_and c.from_residual.result c.from_residual.ensures.1 in
    rw p.1 (
      first_as g.W.Sink.bytes_taken _ _ c.args.pending.now _ _ _ (entry_as (plan_of_layout c.args.layout.now) c.args.layout.now.order
          c.args.layout.now.filler c.args.dir (entry_of c.args.entry.now) c.entry_head.result c.entry_head.ensures)
          (c.in_err-put.ensures.bytes, c.in_err-put.ensures.waits),
      search rules,
    )

pub returns : goal.returns
returns g c = (
  both_as g.W.Sink.bytes_taken c.put_last.result _ _ _ c.args.pending.now c.put.new.self c.put_last.new.pending _ _ _
      (entry_as (plan_of_layout c.args.layout.now) c.args.layout.now.order c.args.layout.now.filler c.args.dir (entry_of c.args.entry.now)
      c.entry_head.result c.entry_head.ensures)
      (c.in_ok-put.ensures.bytes, c.in_ok-put.ensures.waits) c.put_last.ensures.0,
  search rules,
)
