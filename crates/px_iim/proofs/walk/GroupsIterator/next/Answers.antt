use Rattle.std.proofs.Common.{◌≡◌, ◌∙◌, ◌+◌, ◌∷◌, [], ℕ, List, length, arith, drop, take, map, get_or, sym, ap, subst}
use Rattle.std.proofs.lemmas.List.{drop-drop}
use Rattle.px_iim.specs.declared.group.Item.{Item}
use Rattle.px_iim.specs.Group.{Group, Record, named}
use Rattle.px_iim.specs.calls.Runs.{runs, InOrder, AreNumbers}
use Rattle.px_iim.specs.calls.View.{item_view, dataset_view}
use Rattle.px_iim.proofs.reading.RunSteps.{next_run, left_parts}
use Rattle.px_iim.proofs.walk.GroupsIterator.next.Goals as goal

pub invariant_of-self : goal.invariant_of-self
invariant_of-self c =
    let at = c.self.inside.at in
    let items = c.self.inside.items.now in
    let end = c.run_len-len.result in
    let p = left_parts end (drop at items) c.self.invariant.0 c.self.invariant.1 in (
      subst (λ (ss : List Item). InOrder (map dataset_view ss)) (drop-drop end at items) p.0,
      subst (λ (ss : List Item). AreNumbers (map dataset_view ss)) (drop-drop end at items) p.1,
    )

group_built : (r n m : ℕ) (xs ys : List Item) (i j : Record) → n ≡ m → xs ≡ ys → i ≡ j →
    let f : Group = record { rec = r; number = m; items = map item_view ys } in
    let g : Group = record { rec = r; number = n; items = map item_view xs } in
    f ∷ j ≡ g ∷ i
group_built r n m xs ys i j p q h =
    ap (λ (k : ℕ). let f : Group = record { rec = r; number = k; items = map item_view ys } in f ∷ j) (sym p)
    ∙ ap (λ (zs : List Item). let f : Group = record { rec = r; number = n; items = map item_view zs } in f ∷ j) (sym q)
    ∙ ap (λ (k : Record). let f : Group = record { rec = r; number = n; items = map item_view xs } in f ∷ k) (sym h)

pub returns-clause-steps : goal.returns-clause-steps
returns-clause-steps c =
    let at = c.self.inside.at in
    let items = c.self.inside.items.now in
    let end = c.run_len-len.result in
    let left = c.split_at.result.1.now in
    let d : Item = record { rec = 0; number = 0; octets = record { ref_ptr = (0, 0); now = [] } } in
    let e : left ≡ drop at items = c.split_at.ensures.back in
    let o = subst (λ (ss : List Item). InOrder (map dataset_view ss)) (sym e) c.self.invariant.0 in
    let w = subst (λ (ss : List Item). AreNumbers (map dataset_view ss)) (sym e) c.self.invariant.1 in
    let tail : drop (at + end) items ≡ drop end left = sym (drop-drop end at items) ∙ ap (drop end) (sym e) in
    sym c.self.view_is ∙ ap (λ (ss : List Item). runs (map dataset_view ss)) (sym e)
    ∙ next_run left end d c.run_len-len.ensures.some c.run_len-len.ensures.within (λ k i. c.run_len-len.ensures.same k d i)
    (λ i. c.run_len-len.ensures.next d i) o w
    ∙ group_built (get_or left 0 d).rec c.named.result (named (get_or left 0 d).rec (get_or left 0 d).number) c.split_at-2.result.0.now
    (take end left)
    (runs (map dataset_view (drop (at + end) items))) (runs (map dataset_view (drop end left))) c.named.ensures c.split_at-2.ensures.front
    (ap (λ (ss : List Item). runs (map dataset_view ss)) tail)

pub returns-clause-goes : goal.returns-clause-goes
returns-clause-goes c =
    let e = ap length (returns-clause-steps c) in record {
      on = λ f. (tt, tt, omega arith);
      keeps = tt;
      rests = λ f. tt;
    }
