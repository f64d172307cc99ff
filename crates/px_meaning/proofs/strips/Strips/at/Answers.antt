use Rattle.std.proofs.Common.{◌<◌, ◌-◌, ℕ, List, option_map, length, map, slice_get, refl, sym, subst, ap, ◌∙◌, arith}
use Rattle.std.proofs.lemmas.List.{length-map}
use Rattle.std.proofs.lemmas.Option.{slice_get-map, slice_get_read}
use Rattle.px_meaning.proofs.tables.StripBytes.{named_some, strips_length, get_named, get_pushed}
use Rattle.px_meaning.proofs.strips.Strips.at.Goals as goal

pub strip_at-requires-clause-named : goal.strip_at-requires-clause-named
strip_at-requires-clause-named c = named_some c.self.inside.named c.in-Some.lists c.in-Some.is c.self.invariant

pub index-requires-2 : goal.index-requires-2
index-requires-2 c =
    let list = c.self.inside.list in
    let pushed = map (λ x. x.now) list.items in
    let there = subst (λ (xs : List (List ℕ)). c.args.i < length xs) (sym c.self.view_is) c.requires in
    let all = strips_length c.self.inside.named c.in-Some.lists c.in-Some.is c.self.invariant pushed in
    let mapped = length-map list.items (λ x. x.now) in
    let items = list.ok.0 in
    let count = c.count-count.ensures.count in
    let after = c.if-i-count.false in
    omega arith

pub returns-then-i-count : goal.returns-then-i-count
returns-then-i-count c =
    let pushed = map (λ x. x.now) c.self.inside.list.items in
    rw (← c.self.view_is)
    (get_named c.self.inside.named c.in-Some.lists c.in-Some.is c.self.invariant pushed c.args.i c.strip_at.result.now c.strip_at.ensures)

pub returns : goal.returns
returns c =
    let list = c.self.inside.list in
    let pushed = map (λ x. x.now) list.items in
    let there = subst (λ (xs : List (List ℕ)). c.args.i < length xs) (sym c.self.view_is) c.requires in
    let all = strips_length c.self.inside.named c.in-Some.lists c.in-Some.is c.self.invariant pushed in
    let mapped = length-map list.items (λ x. x.now) in
    let count = c.count-count.ensures.count in
    let after = c.if-i-count.false in
    let k = c.args.i - c.count-count.result in
    let inside : k < length list.items = omega arith in
    rw (← c.self.view_is) (
    get_pushed c.self.inside.named c.in-Some.lists c.in-Some.is c.self.invariant pushed c.args.i (omega arith)
    ∙ ap (λ (n : ℕ). slice_get pushed (c.args.i - n)) (sym count)
    ∙ slice_get-map (λ x. x.now) list.items k
    ∙ ap (λ x. option_map (λ x. x.now) x) (slice_get_read list.items (length list.items) k c.index-2.result.now refl inside
    c.index-2.ensures))
