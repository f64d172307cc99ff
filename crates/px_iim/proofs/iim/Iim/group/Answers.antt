use Rattle.std.proofs.Common.{◌≡◌, ◌∙◌, ◌<◌, ◌≤◌, ◌+◌, ◌*◌, ℕ, List, ap, sym, subst, arith, get_or, map, length, take, drop}
use Rattle.px_iim.specs.declared.group.Item.{Item}
use Rattle.px_iim.specs.Group.{named, items_at}
use Rattle.px_iim.specs.calls.Runs.{key_of, runs, InOrder, AreNumbers}
use Rattle.px_iim.specs.calls.View.{item_view, dataset_view}
use Rattle.px_iim.proofs.reading.Parts.{group_part}
use Rattle.px_iim.proofs.reading.RunSteps.{left_parts}
use Rattle.px_iim.proofs.iim.Iim.group.Goals as goal

pub count_before-requires-2 : goal.count_before-requires-2
count_before-requires-2 c =
    let s = c.count_before.result in
    let same = c.split_at.ensures.back ∙ ap (drop s) c.as_slice-items.ensures.value in
    subst (λ (ss : List Item). InOrder (map dataset_view ss)) (sym same)
    (left_parts s c.self.inside.items.items c.self.invariant.0 c.self.invariant.1).0

items_at_part : (rec n key : ℕ) → n < 256 → key ≡ 256 * rec + n → (xs after : List Item) (s m : ℕ) → after ≡ drop s xs
    → InOrder (map dataset_view xs) → AreNumbers (map dataset_view xs)
    → ((k : ℕ) (d : Item) → k < s → key_of (dataset_view (get_or xs k d)) < key)
    → ((k : ℕ) (d : Item) → s ≤ k → k < length xs → key ≤ key_of (dataset_view (get_or xs k d)))
    → ((k : ℕ) (d : Item) → k < m → key_of (dataset_view (get_or after k d)) < key + 1)
    → ((k : ℕ) (d : Item) → m ≤ k → k < length after → key + 1 ≤ key_of (dataset_view (get_or after k d)))
    → map item_view (take m after) ≡ items_at rec n (runs (map dataset_view xs))
items_at_part rec n key b e xs after s m q o w f g h i =
    ap (λ (l : List Item). map item_view (take m l)) q
    ∙ group_part rec n b xs s m o w (λ k d l. omega (arith, f k d l, e)) (λ k d l j. omega (arith, g k d l j, e))
    (λ k d l. subst (λ (ss : List Item). key_of (dataset_view (get_or ss k d)) < 256 * rec + n + 1) q (omega (arith, h k d l, e)))
    (λ k d l j. subst (λ (ss : List Item). 256 * rec + n + 1 ≤ key_of (dataset_view (get_or ss k d))) q
    (omega (arith, i k d l (subst (λ (ss : List Item). k < length ss) (sym q) j), e)))

pub returns : goal.returns
returns c =
    let xs = c.as_slice-items.result.now in
    let n = named c.args.rec c.args.number in
    let same = c.as_slice-items.ensures.value in
    ap (map item_view) c.split_at-2.ensures.front
    ∙ items_at_part c.args.rec n c.key_of-key.result c.key_of-key.ensures.byte c.key_of-key.ensures.value xs c.split_at.result.1.now
    c.count_before.result c.count_before-2.result c.split_at.ensures.back
    (subst (λ (ss : List Item). InOrder (map dataset_view ss)) (sym same) c.self.invariant.0)
    (subst (λ (ss : List Item). AreNumbers (map dataset_view ss)) (sym same) c.self.invariant.1)
    (λ k d l. c.count_before.ensures.front k d l) (λ k d l j. c.count_before.ensures.after k d l j)
    (λ k d l. c.count_before-2.ensures.front k d l) (λ k d l j. c.count_before-2.ensures.after k d l j)
    ∙ ap (λ (ss : List Item). items_at c.args.rec n (runs (map dataset_view ss))) same ∙ ap (items_at c.args.rec n) c.self.view_is
