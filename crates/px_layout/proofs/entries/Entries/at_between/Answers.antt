use Rattle.std.proofs.Common.{◌<◌, ℕ, List, length, slice_get, ap, option_map, ◌∙◌, subst, sym}
use Rattle.px_field.specs.Values.{Value}
use Rattle.px_meaning.specs.Writable.{Item, Field, field_items}
use Rattle.px_layout.specs.declared.entries.Step.TheVariants.{Here, Under}
use Rattle.px_layout.specs.calls.Layers.{under_third, entries_of}
use Rattle.px_layout.proofs.plans.EntryLists.{both_twice, field_found}
use Rattle.px_layout.proofs.entries.Entries.at_between.Goals as goal

pub at-tag-requires : goal.at-tag-requires
at-tag-requires c =
    let e = c.self.inside in
    let v = c.self.invariant in
    (field_found e.fields.now (entries_of e) c.args.i c.in-Under-pass_both.i
    (both_twice (Under c.in-Under-pass_both.i) e.first e.second e.third e.fourth (field_items e.fields.now) c.args.i c.in-Under.i
    c.in-Under.ensures c.in-Under-pass_both.ensures v.first v.second v.third v.fourth
    (subst (λ (xs : List (ℕ × Item)). c.args.i < length xs) (sym c.self.view_is) c.requires))).1

pub returns-clause-entry : goal.returns-clause-entry
returns-clause-entry c =
    let e = c.self.inside in
    let v = c.self.invariant in
    ap (λ (xs : List (ℕ × Item)). slice_get xs c.args.i) (sym c.self.view_is)
    ∙ (field_found e.fields.now (entries_of e) c.args.i c.in-Under-pass_both.i
    (both_twice (Under c.in-Under-pass_both.i) e.first e.second e.third e.fourth (field_items e.fields.now) c.args.i c.in-Under.i
    c.in-Under.ensures c.in-Under-pass_both.ensures v.first v.second v.third v.fourth
    (subst (λ (xs : List (ℕ × Item)). c.args.i < length xs) (sym c.self.view_is) c.requires))).0
    ∙ ap (option_map (λ (p : ℕ × Value). (p.0, Field p.1))) c.at-tag.ensures

pub returns-in-Here-clause-entry : goal.returns-in-Here-clause-entry
returns-in-Here-clause-entry c =
    let e = c.self.inside in
    let v = c.self.invariant in
    ap (λ (xs : List (ℕ × Item)). slice_get xs c.args.i) (sym c.self.view_is)
    ∙ (c.in-Here.ensures (under_third e) v.third v.fourth
    (subst (λ (xs : List (ℕ × Item)). c.args.i < length xs) (sym c.self.view_is) c.requires)).0

pub returns-in-Here-clause-counted : goal.returns-in-Here-clause-counted
returns-in-Here-clause-counted c =
    let e = c.self.inside in
    let v = c.self.invariant in
    (c.in-Here.ensures (under_third e) v.third v.fourth
    (subst (λ (xs : List (ℕ × Item)). c.args.i < length xs) (sym c.self.view_is) c.requires)).1

pub returns-in-Here-pass_both-clause-entry : goal.returns-in-Here-pass_both-clause-entry
returns-in-Here-pass_both-clause-entry c =
    let e = c.self.inside in
    let v = c.self.invariant in
    ap (λ (xs : List (ℕ × Item)). slice_get xs c.args.i) (sym c.self.view_is)
    ∙ (both_twice (Here c.in-Here-pass_both.tag c.in-Here-pass_both.item) e.first e.second e.third e.fourth
    (field_items e.fields.now) c.args.i
    c.in-Under.i c.in-Under.ensures c.in-Here-pass_both.ensures v.first v.second v.third v.fourth
    (subst (λ (xs : List (ℕ × Item)). c.args.i < length xs) (sym c.self.view_is) c.requires)).0

pub returns-in-Here-pass_both-clause-counted : goal.returns-in-Here-pass_both-clause-counted
returns-in-Here-pass_both-clause-counted c =
    let e = c.self.inside in
    let v = c.self.invariant in
    (both_twice (Here c.in-Here-pass_both.tag c.in-Here-pass_both.item) e.first e.second e.third e.fourth
    (field_items e.fields.now) c.args.i
    c.in-Under.i c.in-Under.ensures c.in-Here-pass_both.ensures v.first v.second v.third v.fourth
    (subst (λ (xs : List (ℕ × Item)). c.args.i < length xs) (sym c.self.view_is) c.requires)).1
