use Rattle.std.proofs.Common.{◌≡◌, ℕ, List, length, ap, arith}
use Rattle.std.proofs.lemmas.List.{length-map}
use Rattle.px_field.specs.Values.{Value}
use Rattle.px_meaning.specs.Writable.{Item, Field, field_items}
use Rattle.px_layout.specs.calls.Layers.{under_second, under_third, under_fourth}
use Rattle.px_layout.proofs.entries.Entries.len.Goals as goal

pub returns : goal.returns
returns c =
    let e = c.self.inside in
    let v = ap (λ (xs : List (ℕ × Item)). length xs) c.self.view_is in
    let f : length (field_items e.fields.now) ≡ length e.fields.now = length-map e.fields.now (λ (p : ℕ × Value). (p.0, Field p.1)) in
    let a = c.number.ensures.added (field_items e.fields.now) in
    let b = c.number-2.ensures.added (under_second e) in
    let d = c.number-3.ensures.added (under_third e) in
    let g = c.number-4.ensures.added (under_fourth e) in
    omega arith
