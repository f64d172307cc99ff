use Rattle.std.proofs.Common.{◌<◌, sym, ◌∙◌, arith, ltb-true, ltb-false}
use Rattle.px_meaning.specs.Writable.{item_size}
use Rattle.px_layout.specs.calls.Items.{entry_of}
use Rattle.px_plans.proofs.plans.Pieces.{value_none, value_over, value_space}
use Rattle.px_plans.proofs.plans.Sizes.{size_placed}
use Rattle.px_plans.proofs.building.lay_value.Goals as goal

pub returns-then-not-needs_place-clause-bytes : goal.returns-then-not-needs_place-clause-bytes
returns-then-not-needs_place-clause-bytes c =
    value_none c.args.layout.now c.args.block.now c.args.block.now c.args.dir (entry_of c.args.entry.now)
    (let s = c.size.ensures in let t = ltb-false 4 _ (sym c.needs_place.ensures ∙ c.if-not-needs_place.true) in omega arith)

pub put_at-requires : goal.put_at-requires
put_at-requires c =
    value_space c.args.layout.now c.args.block.now c.args.block.now c.args.dir (entry_of c.args.entry.now)
    (let s = c.size.ensures in let t = ltb-true 4 _ (sym c.needs_place.ensures ∙ c.if-not-needs_place.false) in omega arith)
    c.place_of-at.result c.deref.result.now c.place_of-at.ensures (c.deref.ensures.value ∙ c.in_ok-bytes.ensures.bytes) c.requires.inside

pub returns-clause-bytes : goal.returns-clause-bytes
returns-clause-bytes c =
    value_over c.args.layout.now c.args.block.now c.put_at.new.block c.args.dir (entry_of c.args.entry.now)
    (let s = c.size.ensures in let t = ltb-true 4 _ (sym c.needs_place.ensures ∙ c.if-not-needs_place.false) in omega arith)
    c.place_of-at.result c.deref.result.now c.place_of-at.ensures (c.deref.ensures.value
    ∙ c.in_ok-bytes.ensures.bytes) c.put_at.ensures.bytes

pub returns-in_err-bytes-clause-asked : goal.returns-in_err-bytes-clause-asked
returns-in_err-bytes-clause-asked c =
    let s = c.size.ensures in
    let t = ltb-true 4 _ (sym c.needs_place.ensures ∙ c.if-not-needs_place.false) in
    let big : 4 < item_size (entry_of c.args.entry.now).1 = omega arith in
    omega (arith, c.in_err-bytes.ensures.asked, size_placed c.args.layout.now c.args.dir (entry_of c.args.entry.now) big)

pub returns-clause-asked : goal.returns-clause-asked
returns-clause-asked c =
    let s = c.size.ensures in
    let t = ltb-true 4 _ (sym c.needs_place.ensures ∙ c.if-not-needs_place.false) in
    let big : 4 < item_size (entry_of c.args.entry.now).1 = omega arith in
    omega (arith, c.in_ok-bytes.ensures.paid, size_placed c.args.layout.now c.args.dir (entry_of c.args.entry.now) big)

pub returns-clause-paid : goal.returns-clause-paid
returns-clause-paid c =
    let s = c.size.ensures in
    let t = ltb-true 4 _ (sym c.needs_place.ensures ∙ c.if-not-needs_place.false) in
    let big : 4 < item_size (entry_of c.args.entry.now).1 = omega arith in
    omega (arith, c.in_ok-bytes.ensures.paid, size_placed c.args.layout.now c.args.dir (entry_of c.args.entry.now) big)
