use Rattle.std.proofs.Common.{arith}
use Rattle.px_plans.proofs.plans.Pieces.{on_ok, entries_over}
use Rattle.px_plans.proofs.building.lay_entries.Goals as goal

pub lay_table-requires-clause-inside : goal.lay_table-requires-clause-inside
lay_table-requires-clause-inside c = let k = c.lay_values.ensures.len in let t = c.requires.table in omega arith

pub returns-clause-bytes : goal.returns-clause-bytes
returns-clause-bytes c =
    on_ok c.lay_table.result _ _ (entries_over c.args.layout.now c.args.dir c.args.entries.now c.args.block.now c.lay_values.new.block
    c.lay_table.new.block c.lay_values.ensures.len c.in_ok-lay_values.ensures.bytes) c.lay_table.ensures.bytes

pub returns-clause-paid : goal.returns-clause-paid
returns-clause-paid c =
    on_ok c.lay_table.result _ _ (λ paid. omega (arith, c.in_ok-lay_values.ensures.paid, paid)) c.lay_table.ensures.paid
