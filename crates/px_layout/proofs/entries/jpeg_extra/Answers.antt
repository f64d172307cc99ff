use Rattle.std.proofs.Common.{arith}
use Rattle.px_meaning.specs.Writable.{field_items}
use Rattle.px_layout.specs.calls.Layers.{with_extra}
use Rattle.px_layout.proofs.entries.jpeg_extra.Goals as goal

pub returns-in-Some-clause-at_rank : goal.returns-in-Some-clause-at_rank
returns-in-Some-clause-at_rank c =
    let f = c.fields_before.ensures.rank in
    let a = c.adds.ensures.added (field_items c.args.fields.now) in
    let b = c.adds-in-Some.ensures.added (with_extra c.args.first.now (field_items c.args.fields.now)) in
    let d = c.adds-in-Some-2.ensures.added (with_extra c.args.second.now (with_extra c.args.first.now (field_items c.args.fields.now))) in
    (omega arith, tt)
