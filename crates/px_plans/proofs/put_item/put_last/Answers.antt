use Rattle.std.proofs.Common.{subst, sym, ◌∙◌, ltb-false}
use Rattle.std.proofs.lemmas.Result.{err_from_is_err_and}
use Rattle.px_layout.specs.calls.Items.{entry_of}
use Rattle.px_plans.specs.calls.Layouts.{plan_of_layout}
use Rattle.px_bytes.specs.Devices.{Calls, CanCountFailure, Counts}
use Rattle.px_layout.specs.lemmas.PutLaws.{both_as, first_as}
use Rattle.px_layout.specs.lemmas.EntryBytes.{last_inside}
use Rattle.px_plans.proofs.put_item.put_last.Goals as goal

pub returns-in_err-put_item : goal.returns-in_err-put_item
returns-in_err-put_item g c =
    let p = err_from_is_err_and c.from_residual.result c.from_residual.ensures.1 in
    rw p.1 (
      first_as g.W.Sink.bytes_taken _ _ c.args.pending.now _ _ _ (last_inside (plan_of_layout c.args.layout.now) c.args.layout.now.order
          c.args.layout.now.filler c.args.dir (entry_of c.args.entry.now) c.size-size.result c.size-size.ensures
          (ltb-false 4 _ (sym c.needs_place.ensures ∙ c.if-needs_place.false)))
          c.in_err-put_item.ensures.0,
      c.in_err-put_item.ensures.1,
    )

pub returns : goal.returns
returns g c = (
  both_as g.W.Sink.bytes_taken c.put_filler.result _ _ _ c.args.pending.now c.put_item.new.pending c.put_filler.new.pending _ _ _
      (last_inside (plan_of_layout c.args.layout.now) c.args.layout.now.order c.args.layout.now.filler c.args.dir (entry_of c.args.entry.now)
      c.size-size.result c.size-size.ensures (ltb-false 4 _ (sym c.needs_place.ensures ∙ c.if-needs_place.false)))
      c.in_ok-put_item.ensures.0 c.put_filler.ensures.0,
  subst (λ (n : Calls). Counts c.put_filler.result n (g.W.Device.calls c.put_filler.new.writer)) c.in_ok-put_item.ensures.1
      c.put_filler.ensures.1,
)

pub put_filler-requires-clause-few : goal.put_filler-requires-clause-few
put_filler-requires-clause-few g c = subst CanCountFailure (sym c.in_ok-put_item.ensures.1) c.requires.few
