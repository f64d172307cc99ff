use Rattle.std.proofs.Common.{◌≡◌, ◌∙◌, ◌-◌, ℕ, [], ◌∷◌, length, drop, subst, sym, arith}
use Rattle.px_layout.specs.calls.Items.{entry_of}
use Rattle.px_plans.specs.calls.Building.{AreInside, PutsOver, value_pieces}
use Rattle.px_plans.proofs.plans.Pieces.{value_inside, values_more}
use Rattle.px_plans.proofs.plans.Sizes.{size_next, size_rest}
use Rattle.px_plans.proofs.building.lay_values.Goals as goal

pub lay_value-requires-clause-inside : goal.lay_value-requires-clause-inside
lay_value-requires-clause-inside c =
    subst (λ (n : ℕ). AreInside n (value_pieces c.args.layout.now c.args.dir ((entry_of c.at-entry.result) ∷ []))) (sym c.loop-i.auto.block)
    (value_inside c.args.layout.now c.args.dir (length c.args.block.now) (c.loop-i.i - 1) c.args.entries.now (entry_of c.at-entry.result)
    c.at-entry.ensures.entry c.requires)

pub loop-i-preserved : goal.loop-i-preserved
loop-i-preserved c = record {
  bytes = values_more c.args.layout.now c.args.dir c.args.block.now c.loop-i.block c.lay_value.new.block c.args.entries.now
      (c.loop-i.i - 1) c.loop-i.i
      (entry_of c.at-entry.result) (let t = c.loop-i-test.true in omega arith) c.at-entry.ensures.entry c.loop-i.auto.block
      c.loop-i.invariant.bytes c.in_ok-lay_value.ensures.bytes;
  memory = c.in_ok-lay_value.ensures.memory ∙ c.loop-i.invariant.memory;
  paid =
      omega (
        arith,
        c.loop-i.invariant.paid,
        c.in_ok-lay_value.ensures.paid,
        size_next c.args.layout.now c.args.dir c.args.entries.now (c.loop-i.i - 1) c.loop-i.i (entry_of c.at-entry.result)
            (let t = c.loop-i-test.true in omega arith) c.at-entry.ensures.entry,
      );
}

pub returns-clause-bytes : goal.returns-clause-bytes
returns-clause-bytes c =
    let z : c.loop-i.i ≡ 0 = let t = c.loop-i-test.false in omega arith in
    subst (λ (i : ℕ). PutsOver c.args.block.now c.loop-i.block (value_pieces c.args.layout.now c.args.dir (drop i c.args.entries.now))) z
    c.loop-i.invariant.bytes

pub returns-in_err-lay_value-clause-asked : goal.returns-in_err-lay_value-clause-asked
returns-in_err-lay_value-clause-asked c =
    omega (
      arith,
      c.loop-i.invariant.paid,
      c.in_err-lay_value.ensures.asked,
      size_next c.args.layout.now c.args.dir c.args.entries.now (c.loop-i.i - 1) c.loop-i.i (entry_of c.at-entry.result)
          (let t = c.loop-i-test.true in omega arith) c.at-entry.ensures.entry,
      size_rest c.args.layout.now c.args.dir (c.loop-i.i - 1) c.args.entries.now,
    )

pub returns-clause-asked : goal.returns-clause-asked
returns-clause-asked c = omega (arith, c.loop-i.invariant.paid, size_rest c.args.layout.now c.args.dir c.loop-i.i c.args.entries.now)

pub returns-clause-paid : goal.returns-clause-paid
returns-clause-paid c = omega (arith, c.loop-i.invariant.paid, size_rest c.args.layout.now c.args.dir c.loop-i.i c.args.entries.now)
