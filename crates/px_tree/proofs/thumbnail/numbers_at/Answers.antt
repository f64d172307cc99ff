use Rattle.std.proofs.Common.{map, length, sym, ap, ◌∙◌}
use Rattle.px_field.specs.Values.{Value}
use Rattle.px_meaning.specs.Thumbnail.{whole_number}
use Rattle.px_tree.proofs.lists.Listed.{codes_from, numbers_is, length_list}
use Rattle.px_tree.proofs.reading.Raw.{whole_from}
use Rattle.px_tree.proofs.thumbnail.numbers_at.Goals as goal

pub value_at-requires : goal.value_at-requires
value_at-requires c =
    let r = c.requires in
    let f = c.args.found in
    let known = c.number_form.ensures (codes_from f.head r.formed) in
    record {
      bounded =
          r.bounded;
      inside =
          r.inside;
      shown =
          r.shown;
      known = known;
      whole = whole_from c.args.block.now c.args.order f.place f.head c.number_form.result r.shown known r.whole;
    }

pub returns-clause-numbers : goal.returns-clause-numbers
returns-clause-numbers c =
    let r = c.requires in
    let f = c.args.found in
    let known = c.number_form.ensures (codes_from f.head r.formed) in
    ap (λ (v : Value). map whole_number v.elements) c.value_at.ensures
    ∙ sym (numbers_is c.args.block.now c.args.order f c.number_form.result r.shown known)

pub returns-clause-count : goal.returns-clause-count
returns-clause-count c =
    let r = c.requires in
    ap (λ (v : Value). length v.elements) c.value_at.ensures
    ∙ length_list c.args.block.now c.args.order c.args.found c.number_form.result r.shown
