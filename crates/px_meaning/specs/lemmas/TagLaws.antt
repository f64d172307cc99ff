-- The value at a tag.
use Rattle.std.proofs.Common.{◌≡◌, ℕ, Some, List, [], ◌∷◌, sym, ◌∙◌, subst, inl, inr, ◌==◌, eqb-true}
use Rattle.std.specs.List.{AllByRecursion}
use Rattle.std.proofs.lemmas.Bool.{cases_Bool, cond-true, cond-false}
use Rattle.px_meaning.specs.Roles.{at_tag}

-- a property of each pair is one of the pair at a tag
pub each_at : {X : Type 0} (P : ℕ × X → Type 0) (t : ℕ) (x : X) (xs : List (ℕ × X)) → AllByRecursion P xs → at_tag t xs ≡ Some x → P (t, x)
each_at P t x [] h e = cc
each_at {X} P t x (y ∷ ys) h e = elim (cases_Bool (y.0 == t)) [
  | inl q ↦ let s : Some y.1 ≡ Some x = sym (cond-true (y.0 == t) (Some y.1) (at_tag t ys) q) ∙ e in
      let k : y.1 ≡ x = cc in let t' : y.0 ≡ t = eqb-true y.0 t q in
      subst (λ (z : X). P (t, z)) k (subst (λ (u : ℕ). P (u, y.1)) t' h.0)
  | inr q ↦ each_at P t x ys h.1 (sym (cond-false (y.0 == t) (Some y.1) (at_tag t ys) q) ∙ e)
]
