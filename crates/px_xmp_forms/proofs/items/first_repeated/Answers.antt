use Rattle.std.proofs.Common.{◌≡◌, ◌≤◌, ◌<◌, ◌+◌, ◌-◌, ◌∙◌, inl, ℕ, true, false, Option, Some, None, sym, ap, subst, arith, length, get_or, max, MatchOption}
use Rattle.std.specs.Cmp.Lexicographic.{bytes_decides}
use Rattle.px_xmp_forms.specs.Entries.{Entry, IsRepeated, AreDistinct}
use Rattle.px_xmp_forms.specs.Outputs.{IsItem}
use Rattle.px_xmp_forms.specs.declared.items.Item.{Item}
use Rattle.px_xmp_forms.proofs.EntryLaws.{NeighboursDiffer, as_many, item_at, same_label, same_name, neighbours_repeat, repeat_then, repeat_else, all_differ, neighbours_few}
use Rattle.px_xmp_forms.proofs.items.first_repeated.Goals as goal
use Rattle.px_xmp_forms.proofs.items.first_repeated.Goals.{then-eq, else-eq}

pub loop-n-preserved : goal.loop-n-preserved
loop-n-preserved c es h =
    let inv = c.loop-n.invariant es h in
    let len = as_many c.args.items.now es h in
    let i : c.loop-n.n - 1 < length es = omega arith in
    let j : c.loop-n.n < length es = omega arith in
    let low : 1 ≤ c.loop-n.n = omega arith in
    let x = c.index-items-n.result in
    let y = c.index-items-n-in-loop-n.result in
    let at : (d : Entry) → IsItem x (get_or es (c.loop-n.n - 1) d) = λ d.
    subst (λ (z : Item). IsItem z (get_or es (c.loop-n.n - 1) d)) (sym c.index-items-n.is) (item_at c.args.items.now es (c.loop-n.n - 1) x d h i) in
    let by : (d : Entry) → IsItem y (get_or es c.loop-n.n d) = λ d.
    subst (λ (z : Item). IsItem z (get_or es c.loop-n.n d)) (sym c.index-items-n-in-loop-n.is) (item_at c.args.items.now es c.loop-n.n y d h j) in
    let P : Option ℕ → Type 0 = λ z. MatchOption z (NeighboursDiffer es (c.loop-n.n + 1)) (IsRepeated es) in
    let test = bytes_decides c.name.result.now c.name-in-loop-n.result.now in
    elim c.if-eq.branch [
      | then-eq w ↦
          let same = sym c.name.ensures ∙ test.0 (sym c.eq.ensures ∙ w.if-eq.true) ∙ c.name-in-loop-n.ensures in
          subst P (sym w.place-is)
          (repeat_then es c.loop-n.n w.max.result c.loop-n.place w.earlier-place.result inv w.earlier-place.ensures
          (neighbours_repeat es c.loop-n.n w.max.result low j (λ d. same_label x y _ _ (at d) (by d) same) (λ d.
          let a = item_at c.args.items.now es (c.loop-n.n - 1) w.index-items-n-then-eq.result d h i in
          let b = item_at c.args.items.now es c.loop-n.n w.index-items-n-then-eq-2.result d h j in
          w.max.ensures ∙ ap (λ (z : ℕ). max z (get_or c.args.items.now c.loop-n.n w.index-items-n-then-eq-2.result).place) a.place
          ∙ ap (λ (z : ℕ). max (get_or es (c.loop-n.n - 1) d).place z) b.place)))
      | else-eq w ↦
          subst P (sym w.place-is) (repeat_else es c.loop-n.n c.loop-n.place low (λ d e.
          let same = c.name.ensures ∙ same_name x y _ _ (at d) (by d) e ∙ sym c.name-in-loop-n.ensures in
          let t : true ≡ false = sym (test.1 same) ∙ sym c.eq.ensures ∙ w.if-eq.false in absurd (cc)) inv)
    ]

pub returns : goal.returns
returns c es h o = ends c.loop-n.place (c.loop-n.invariant es h)
  where
    len : length c.args.items.now ≡ length es
    len = as_many c.args.items.now es h

    ends : (r : Option ℕ) → MatchOption r (NeighboursDiffer es c.loop-n.n) (IsRepeated es) → MatchOption r (AreDistinct es) (IsRepeated es)
    ends None inv = all_differ c.args.items.now es h o (neighbours_few es c.loop-n.n (length es) (inl (omega (arith, len))) inv)
    ends (Some p) inv = inv
