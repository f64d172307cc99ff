use Rattle.std.proofs.Common.{◌≤◌, ◌+◌, ℕ, length, refl, ap, ◌∙◌, arith}
use Rattle.std.proofs.lemmas.Result.{err_from_is_err_and}
use Rattle.px_layout.specs.calls.Items.{entry_of}
use Rattle.px_layout.specs.Chunks.{placed_chunk}
use Rattle.px_layout.specs.lemmas.WalkLaws.{values_more, values_done}
use Rattle.px_plans.proofs.plans.Asked.{values_counted}
use Rattle.px_plans.proofs.sizing.push_values.Goals as goal

pub loop-i-init : goal.loop-i-init
loop-i-init c = record { chunks = refl; memory = refl; paid = omega arith }

pub returns-in_err-push_value-clause-chunks : goal.returns-in_err-push_value-clause-chunks
returns-in_err-push_value-clause-chunks c =
    let p = err_from_is_err_and c.from_residual.result c.from_residual.ensures.1 in rw p.1 tt

pub returns-in_err-push_value-clause-memory : goal.returns-in_err-push_value-clause-memory
returns-in_err-push_value-clause-memory c =
    let p = err_from_is_err_and c.from_residual.result c.from_residual.ensures.1 in
    rw p.1 (c.in_err-push_value.ensures.memory ∙ ap (λ (n : ℕ). n + 1) c.loop-i.invariant.memory)

pub returns-in_err-push_value-clause-asked : goal.returns-in_err-push_value-clause-asked
returns-in_err-push_value-clause-asked c =
    omega (
      arith,
      c.loop-i.invariant.paid,
      c.in_err-push_value.ensures.asked,
      values_counted (placed_chunk c.args.dir) c.args.entries.now c.loop-i.i (entry_of c.at-entry.result) c.at-entry.ensures.entry,
    )

pub loop-i-preserved : goal.loop-i-preserved
loop-i-preserved c = record {
  chunks = values_more (placed_chunk c.args.dir) c.args.entries.now c.loop-i.i (entry_of c.at-entry.result) c.loop-i.out.items
      c.push_value.new.out.items c.at-entry.ensures.entry c.in_ok-push_value.ensures.chunks ∙ c.loop-i.invariant.chunks;
  memory = c.in_ok-push_value.ensures.memory ∙ c.loop-i.invariant.memory;
  paid =
      omega (
        arith,
        c.loop-i.invariant.paid,
        c.in_ok-push_value.ensures.paid,
        values_counted (placed_chunk c.args.dir) c.args.entries.now c.loop-i.i (entry_of c.at-entry.result) c.at-entry.ensures.entry,
      );
}

pub returns-clause-chunks : goal.returns-clause-chunks
returns-clause-chunks c =
    let n = c.len-i-end.ensures in
    let t = c.loop-i-test.false in
    let l : length c.args.entries.now ≤ c.loop-i.i = omega arith in
    values_done (placed_chunk c.args.dir) c.args.entries.now c.loop-i.i c.loop-i.out.items _ l c.loop-i.invariant.chunks

pub returns-clause-memory : goal.returns-clause-memory
returns-clause-memory c = c.loop-i.invariant.memory

pub returns-clause-asked : goal.returns-clause-asked
returns-clause-asked c = omega (arith, c.loop-i.invariant.paid)

pub returns-clause-paid : goal.returns-clause-paid
returns-clause-paid c = omega (arith, c.loop-i.invariant.paid)
