use Rattle.std.proofs.Common.{◌≤◌, [], List, sym, subst, refl, true, arith, length}
use Rattle.std.proofs.lemmas.Result.{on_ok_weaker}
use Rattle.std.proofs.lemmas.List.Sorted.{IsPermutation-sym}
use Rattle.px_xmp_text.specs.Values.{written}
use Rattle.px_xmp_forms.specs.Forms.{most}
use Rattle.px_xmp_forms.specs.Entries.{Sorts, AreDistinct, row}
use Rattle.px_xmp_forms.specs.Outputs.{Open, State, AreItems, begun, with_joined, first_entries}
use Rattle.px_xmp_forms.specs.declared.items.Item.{Item}
use Rattle.px_xmp_forms.proofs.EntryLaws.{items_moved, items_sorted, distinct_moved, repeated_moved, row_length}
use Rattle.px_xmp_forms.proofs.OutputLaws.{joins_first}
use Rattle.px_xmp_forms.proofs.output.Output.join_properties.Goals as goal

pub returns-clause-value : goal.returns-clause-value
returns-clause-value c s h =
    let (o, os, f, l, r) = c.in-Some.ensures s h in
    let rest : State = record { opened = os; properties = s.properties } in
    let (fs, p, are) =
    items_moved c.in-Some.level.items.items c.sort_items-items.result.items o.entries c.sort_items-items.ensures.permutation l.entries in
    let sorts : Sorts o.entries fs = record { same = p; order = items_sorted c.sort_items-items.result.items fs are c.sort_items-items.ensures.sorted } in
    let seen = subst (λ (xs : List Item). AreItems xs fs) (sym c.as_slice.ensures.value) are in
    let distinct : AreDistinct fs = c.in_default-first_repeated.ensures fs seen sorts.order in
    let each = subst (λ (ws : List Open). AreDistinct (first_entries ws)) (sym f) (distinct_moved o.entries fs p distinct) in
    on_ok_weaker c.push_joined.result (λ k. (begun (with_joined fs o) rest, k, (each, (joins_first true s.opened o os fs f sorts, refl))))
    (c.push_joined.ensures.value rest o.text fs r l.text are)

pub returns-in-Some-first_repeated-clause-accepts : goal.returns-in-Some-first_repeated-clause-accepts
returns-in-Some-first_repeated-clause-accepts c s h distinct short =
    let (o, os, f, l, r) = c.in-Some.ensures s h in
    let (fs, p, are) =
    items_moved c.in-Some.level.items.items c.sort_items-items.result.items o.entries c.sort_items-items.ensures.permutation l.entries in
    let seen = subst (λ (xs : List Item). AreItems xs fs) (sym c.as_slice.ensures.value) are in
    let again = c.in-Some-first_repeated.ensures fs seen (items_sorted c.sort_items-items.result.items fs are c.sort_items-items.ensures.sorted) in
    let each : AreDistinct o.entries = subst (λ (ws : List Open). AreDistinct (first_entries ws)) f distinct in
    let place = c.in-Some-first_repeated.place in
    absurd (each place (repeated_moved place fs o.entries (IsPermutation-sym _ _ p) again))

pub returns-clause-accepts : goal.returns-clause-accepts
returns-clause-accepts c s h distinct short =
    let (o, os, f, l, r) = c.in-Some.ensures s h in
    let (fs, p, are) =
    items_moved c.in-Some.level.items.items c.sort_items-items.result.items o.entries c.sort_items-items.ensures.permutation l.entries in
    let all : length (written (row o.entries) []) ≤ most = subst (λ (ws : List Open). length (written (row (first_entries ws)) []) ≤ most) f short in
    let few : length (written (row fs) []) ≤ most = omega (arith, row_length o.entries fs p) in
    c.push_joined.ensures.accepts fs are few
