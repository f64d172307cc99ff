use Rattle.std.proofs.Common.{◌<◌, ℕ, List, length, slice_get, ap, option_map, ◌∙◌, subst, sym}
use Rattle.px_field.specs.Values.{Value}
use Rattle.px_meaning.specs.Writable.{Item, Field}
use Rattle.px_layout.proofs.plans.EntryLists.{clear_through}
use Rattle.px_layout.proofs.entries.Entries.at.Goals as goal

pub at-tag-requires : goal.at-tag-requires
at-tag-requires c =
    let e = c.self.inside in
    let v = c.self.invariant in
    (clear_through e.first e.second e.third e.fourth e.fields.now e.clear c.args.i v.clear_first v.clear_second v.clear_third v.clear_fourth
    v.first v.second v.third v.fourth c.if-i-self.true
    (subst (λ (xs : List (ℕ × Item)). c.args.i < length xs) (sym c.self.view_is) c.requires)).1

pub returns-then-i-self-clause-entry : goal.returns-then-i-self-clause-entry
returns-then-i-self-clause-entry c =
    let e = c.self.inside in
    let v = c.self.invariant in
    ap (λ (xs : List (ℕ × Item)). slice_get xs c.args.i) (sym c.self.view_is)
    ∙ (clear_through e.first e.second e.third e.fourth e.fields.now e.clear c.args.i v.clear_first v.clear_second v.clear_third
    v.clear_fourth v.first v.second v.third v.fourth c.if-i-self.true
    (subst (λ (xs : List (ℕ × Item)). c.args.i < length xs) (sym c.self.view_is) c.requires)).0
    ∙ ap (option_map (λ (p : ℕ × Value). (p.0, Field p.1))) c.at-tag.ensures
