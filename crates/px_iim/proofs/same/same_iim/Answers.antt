use Rattle.std.proofs.Common.{◌≡◌, [], ◌∷◌, List, ℕ, Bool, true, false, not, Bor, Option, Some, None, is_some, ◌∙◌, sym, MatchBool}
use Rattle.std.specs.Iterator.{YieldsFirstBy}
use Rattle.px_iim.specs.declared.group.Item.{Item}
use Rattle.px_iim.specs.Group.{Group, Record}
use Rattle.px_iim.specs.calls.View.{part_view}
use Rattle.px_iim.proofs.same.same_iim.Goals as goal

some_none : (x : Group) (xs i : Record) → i ≡ x ∷ xs → i ≡ [] → ⊥
some_none x xs i e f = let clash : x ∷ xs ≡ [] = sym e ∙ f in cc

pub returns-in_default : goal.returns-in_default
returns-in_default c = λ e. some_none _ _ _ c.in-Some.ensures.steps (c.loop-group.invariant.down e ∙ c.in_default.ensures.steps.0)

cons_parts : (x y : Group) (xs ys i j : Record) → i ≡ x ∷ xs → j ≡ y ∷ ys → i ≡ j → (x ≡ y) × (xs ≡ ys)
cons_parts x y xs ys i j e f h = let both : x ∷ xs ≡ y ∷ ys = sym e ∙ h ∙ f in (cc, cc)

pub returns-then-not-same_group : goal.returns-then-not-same_group
returns-then-not-same_group c =
    λ e. c.if-not-same_group.ensures ((cons_parts _ _ _ _ _ _ c.in-Some.ensures.steps c.in-Some-next.ensures.steps
    (c.loop-group.invariant.down e)).0)

cons_from_parts : (x y : Group) (xs ys i j : Record) → i ≡ x ∷ xs → j ≡ y ∷ ys → x ≡ y → xs ≡ ys → i ≡ j
cons_from_parts x y xs ys i j e f h k = cc

pub loop-group-preserved : goal.loop-group-preserved
loop-group-preserved c = record {
  down = λ e. (cons_parts _ _ _ _ _ _ c.in-Some.ensures.steps c.in-Some-next.ensures.steps (c.loop-group.invariant.down e)).1;
  up = λ e. c.loop-group.invariant.up (cons_from_parts _ _ _ _ _ _ c.in-Some.ensures.steps c.in-Some-next.ensures.steps
      c.if-not-same_group.ensures
      e);
}

-- the first is at its end, and the other is at its end too or is not
yields_ended : (r : Option (ℕ × ℕ × Bor (List Item))) (b : Bool) (i j t : Record) (P : Type 0) → i ≡ [] → (P → i ≡ j) → (i ≡ j → P)
    → YieldsFirstBy part_view (λ (left : Record). left) j r t → is_some r ≡ not b → MatchBool b P (P → ⊥)
yields_ended None true i j t P e down up s n = up (e ∙ sym s.0)
yields_ended None false i j t P e down up s n = absurd (cc)
yields_ended (Some x) true i j t P e down up s n = absurd (cc)
yields_ended (Some x) false i j t P e down up s n = λ p. some_none _ _ _ s (sym (down p) ∙ e)

pub returns : goal.returns
returns c =
    yields_ended c.next-2.result c.is_none.result c.loop-group.group-iterator c.loop-group.others c.next-2.new.self
    (c.args.first.now ≡ c.args.second.now) c.in-None.ensures.steps.0 c.loop-group.invariant.down c.loop-group.invariant.up
    c.next-2.ensures.steps c.is_none.ensures
