use Rattle.std.proofs.Common.{ℕ, subst, sym, arith}
use Rattle.px_meaning.specs.calls.Seen.{meaning_of}
use Rattle.px_plans.specs.calls.Building.{AreInside, value_pieces}
use Rattle.px_plans.proofs.plans.Pieces.{on_ok, dir_over, values_inside, table_inside, few_entries}
use Rattle.px_plans.proofs.plans.Sizes.{size_dir}
use Rattle.px_plans.proofs.building.lay_dir.Goals as goal

pub lay_entries-requires-clause-few : goal.lay_entries-requires-clause-few
lay_entries-requires-clause-few c =
    few_entries c.args.layout.now (meaning_of c.args.layout.now.m.now) c.requires.fits c.requires.legal c.args.dir c.in-Some.entries
    (sym c.in-Some.ensures)

pub lay_entries-requires-clause-values : goal.lay_entries-requires-clause-values
lay_entries-requires-clause-values c =
    subst (λ (n : ℕ). AreInside n (value_pieces c.args.layout.now c.args.dir c.in-Some.entries)) (sym c.requires.len)
    (values_inside c.args.layout.now (meaning_of c.args.layout.now.m.now) c.requires.fits c.requires.legal c.args.dir c.in-Some.entries
    (sym c.in-Some.ensures))

pub lay_entries-requires-clause-table : goal.lay_entries-requires-clause-table
lay_entries-requires-clause-table c =
    let t = table_inside c.args.layout.now (meaning_of c.args.layout.now.m.now) c.requires.fits c.requires.legal c.args.dir
    c.in-Some.entries (sym c.in-Some.ensures) in
    let n = c.requires.len in
    omega arith

pub returns-in-Some-clause-bytes : goal.returns-in-Some-clause-bytes
returns-in-Some-clause-bytes c =
    on_ok c.lay_entries.result _ _ (dir_over c.args.layout.now c.args.dir c.in-Some.entries c.args.block.now c.lay_entries.new.block
    (sym c.in-Some.ensures)) c.lay_entries.ensures.bytes

pub returns-in-Some-clause-asked : goal.returns-in-Some-clause-asked
returns-in-Some-clause-asked c =
    omega (
      arith,
      c.lay_entries.ensures.asked,
      size_dir c.args.layout.now (meaning_of c.args.layout.now.m.now) c.args.dir c.in-Some.entries (sym c.in-Some.ensures),
    )

pub returns-in-Some-clause-paid : goal.returns-in-Some-clause-paid
returns-in-Some-clause-paid c =
    on_ok c.lay_entries.result _ _ (λ paid. omega (
      arith,
      paid,
      size_dir c.args.layout.now (meaning_of c.args.layout.now.m.now) c.args.dir c.in-Some.entries (sym c.in-Some.ensures),
    ))
    c.lay_entries.ensures.paid
