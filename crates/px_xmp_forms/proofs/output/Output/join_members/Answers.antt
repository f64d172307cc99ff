use Rattle.std.proofs.Common.{◌≤◌, [], List, Bool, sym, subst, refl, arith, length}
use Rattle.std.proofs.lemmas.Result.{on_ok_weaker}
use Rattle.px_xmp_text.specs.Values.{written}
use Rattle.px_xmp_forms.specs.Forms.{most}
use Rattle.px_xmp_forms.specs.Entries.{Sorts, row}
use Rattle.px_xmp_forms.specs.Outputs.{Open, State, SortsIf, begun, with_joined, first_entries}
use Rattle.px_xmp_forms.proofs.EntryLaws.{items_moved, items_sorted, row_length}
use Rattle.px_xmp_forms.proofs.OutputLaws.{joins_first}
use Rattle.px_xmp_forms.proofs.output.Output.join_members.Goals as goal

pub returns-then-is_bag-clause-value : goal.returns-then-is_bag-clause-value
returns-then-is_bag-clause-value c s h =
    let (o, os, f, l, r) = c.in-Some.ensures s h in
    let rest : State = record { opened = os; properties = s.properties } in
    let (fs, p, are) = items_moved c.in-Some.level.items.items c.bag_items-items.result.items o.entries c.bag_items-items.ensures.permutation l.entries in
    let sorts : Sorts o.entries fs = record { same = p; order = items_sorted c.bag_items-items.result.items fs are (c.bag_items-items.ensures.sorted r.order) } in
    let if_bag = subst (λ (b : Bool). SortsIf b o.entries fs) (sym c.if-is_bag.true) sorts in
    on_ok_weaker c.push_joined.result (λ k. (begun (with_joined fs o) rest, k, (joins_first c.args.is_bag s.opened o os fs f if_bag, refl)))
    (c.push_joined.ensures.value rest o.text fs r l.text are)

pub returns-clause-value : goal.returns-clause-value
returns-clause-value c s h =
    let (o, os, f, l, r) = c.in-Some.ensures s h in
    let rest : State = record { opened = os; properties = s.properties } in
    let if_bag = subst (λ (b : Bool). SortsIf b o.entries o.entries) (sym c.if-is_bag.false) refl in
    on_ok_weaker c.push_joined-2.result (λ k. (begun (with_joined o.entries o) rest, k, (joins_first c.args.is_bag s.opened o os o.entries f if_bag, refl)))
    (c.push_joined-2.ensures.value rest o.text o.entries r l.text l.entries)

pub returns-then-is_bag-clause-accepts : goal.returns-then-is_bag-clause-accepts
returns-then-is_bag-clause-accepts c s h short =
    let (o, os, f, l, r) = c.in-Some.ensures s h in
    let (fs, p, are) = items_moved c.in-Some.level.items.items c.bag_items-items.result.items o.entries c.bag_items-items.ensures.permutation l.entries in
    let all : length (written (row o.entries) []) ≤ most = subst (λ (ws : List Open). length (written (row (first_entries ws)) []) ≤ most) f short in
    let few : length (written (row fs) []) ≤ most = omega (arith, row_length o.entries fs p) in
    c.push_joined.ensures.accepts fs are few
