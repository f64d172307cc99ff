use Rattle.std.proofs.Common.{◌≤◌, ℕ, List, length, flat_map, refl, subst, sym, ◌∙◌, arith, rules}
use Rattle.std.proofs.lemmas.List.{take_all}
use Rattle.std.proofs.lemmas.Result.{err_from_is_err_and}
use Rattle.px_bytes.specs.lemmas.WaitingLaws.{HasPut, put_none, loop_more, loop_stop}
use Rattle.px_bytes.specs.Devices.{CanCountFailure}
use Rattle.px_meaning.specs.Writable.{Item}
use Rattle.px_layout.specs.Laid.{entry_bytes}
use Rattle.px_plans.specs.calls.Layouts.{plan_of_layout}
use Rattle.px_plans.proofs.put_table.put_entries.Goals as goal

pub loop-i-init : goal.loop-i-init
loop-i-init g c = record { put = put_none g.W.Sink.bytes_taken c.args.writer.now c.args.pending.now; count = refl }

pub put_entry-requires-clause-few : goal.put_entry-requires-clause-few
put_entry-requires-clause-few g c = subst CanCountFailure (sym c.loop-i.invariant.count) c.requires

pub returns-in_err-put_entry : goal.returns-in_err-put_entry
returns-in_err-put_entry g c =
    let p = err_from_is_err_and c.from_residual.result c.from_residual.ensures.1 in
    rw p.1 (
      loop_stop g.W.Sink.bytes_taken (entry_bytes (plan_of_layout c.args.layout.now) c.args.layout.now.order c.args.layout.now.filler
          c.args.dir) c.args.entries.now c.loop-i.i _ c.at-entry.ensures.entry
          _ _ _ c.args.pending.now c.loop-i.pending c.loop-i.invariant.put c.in_err-put_entry.ensures.0,
      search rules,
    )

pub loop-i-preserved : goal.loop-i-preserved
loop-i-preserved g c = record {
  put = loop_more g.W.Sink.bytes_taken (entry_bytes (plan_of_layout c.args.layout.now) c.args.layout.now.order c.args.layout.now.filler
      c.args.dir) c.args.entries.now c.loop-i.i _ c.at-entry.ensures.entry
      _ _ _ c.args.pending.now c.loop-i.pending c.put_entry.new.pending c.loop-i.invariant.put c.in_ok-put_entry.ensures.0;
  count = c.in_ok-put_entry.ensures.1 ∙ c.loop-i.invariant.count;
}

pub returns : goal.returns
returns g c =
    let n = c.len-i-end.ensures in
    let t = c.loop-i-test.false in
    let l : length c.args.entries.now ≤ c.loop-i.i = omega arith in (
      subst (λ (xs : List (ℕ × Item)). HasPut g.W.Sink.bytes_taken c.args.writer.now c.loop-i.writer c.args.pending.now c.loop-i.pending
          (flat_map (entry_bytes (plan_of_layout c.args.layout.now) c.args.layout.now.order c.args.layout.now.filler c.args.dir) xs))
          (take_all c.loop-i.i c.args.entries.now l) c.loop-i.invariant.put,
      c.loop-i.invariant.count,
    )
