-- The conditions for fields.
use Rattle.std.proofs.Common.{◌≡◌, ◌<◌, ◌+◌, ◌^◌, ℕ, Bool, suc, true, false, List, [], ◌∷◌, map, flat_map, length, slice_get, Option, Some}
use Rattle.std.proofs.Common.{None, refl, sym, ap, ◌∙◌, subst, inl, inr, arith, IsTrue, ◌↔◌, ◌==◌, eqb-true, eq-eqb}
use Rattle.std.specs.Prelude.{IfSome, is_some, not, option_copied}
use Rattle.std.specs.Borrow.{Bor}
use Rattle.std.specs.List.{AllByRecursion}
use Rattle.std.proofs.lemmas.Bool.{cases_lt, cases_Bool, cond-true, cond-false}
use Rattle.px_bytes.specs.declared.Order.{Order}
use Rattle.px_bytes.specs.declared.Order.TheVariants.{Least}
use Rattle.px_field.specs.declared.Element.TheVariants.{Byte}
use Rattle.px_field.specs.declared.Kind.{Kind}
use Rattle.px_field.specs.declared.Kind.TheVariants as kind
use Rattle.px_field.specs.declared.Form.{Form}
use Rattle.px_field.specs.Values.{Value, IsValue, form_in, encode, encoded}
use Rattle.px_meaning.specs.declared.roles.Dir.{Dir}
use Rattle.px_meaning.specs.Roles.{at_tag, role}
use Rattle.px_meaning.specs.Tree.{Fields}
use Rattle.px_meaning.specs.Entry.{Rising, record_in}
use Rattle.px_meaning.specs.Writable.{Allows, IsWritableField, AreWritableFields}

joined_bytes : (o : Order) (s : List ℕ) → flat_map (encode o) (map Byte s) ≡ s
joined_bytes o [] = refl
joined_bytes o (x ∷ xs) = ap (λ (l : List ℕ). x ∷ l) (joined_bytes o xs)

-- bytes encode to themselves
pub encoded_bytes : (o : Order) (v : Value) (s : List ℕ) → v.elements ≡ map Byte s → encoded o v ≡ s
unfolding encoded
encoded_bytes o v s h = ap (flat_map (encode o)) h ∙ joined_bytes o s

-- is present, or is not None
pub some_not_none : {X : Type 0} (o : Option X) → is_some o ≡ true → o ≡ None → ⊥
some_not_none None h e = let clash : false ≡ true = h in cc
some_not_none (Some x) h e = let clash : Some x ≡ None = e in cc

pub not_none_some : {X : Type 0} (o : Option X) → (o ≡ None → ⊥) → is_some o ≡ true
not_none_some None h = absurd (h refl)
not_none_some (Some x) h = refl

-- a property at each index is one of each element
pub each_by_get : {X : Type 0} (P : X → Type 0) (xs : List X) → ((k : ℕ) (x : X) → k < length xs → slice_get xs k ≡ Some x → P x)
    → AllByRecursion P xs
each_by_get P [] h = tt
each_by_get P (x ∷ xs) h = (h 0 x (omega arith) refl, each_by_get P xs (λ k y below e. h (suc k) y (omega arith) e))

-- a tag that is absent has no field
pub absent_each : (t : ℕ) (fs : Fields) → at_tag t fs ≡ None → AllByRecursion (λ p. (p.0 ≡ t) → ⊥) fs
absent_each t [] h = tt
absent_each t (f ∷ fs) h = elim (cases_Bool (f.0 == t)) [
  | inl q ↦ let clash : Some f.1 ≡ None = sym (cond-true (f.0 == t) (Some f.1) (at_tag t fs) q) ∙ h in absurd (cc)
  | inr q ↦ (
    (λ e. let k : f.0 == t ≡ true = eq-eqb f.0 t e in let clash : true ≡ false = sym k ∙ q in cc),
    absent_each t fs
        (sym (cond-false (f.0 == t) (Some f.1) (at_tag t fs) q) ∙ h),
  )
]

pub each_absent : (t : ℕ) (fs : Fields) → AllByRecursion (λ p. (p.0 ≡ t) → ⊥) fs → at_tag t fs ≡ None
each_absent t [] h = refl
each_absent t (f ∷ fs) h = elim (cases_Bool (f.0 == t)) [
  | inl q ↦ absurd (h.0 (eqb-true f.0 t q))
  | inr q ↦ cond-false (f.0 == t) (Some f.1) (at_tag t fs) q ∙ each_absent t fs h.1
]

-- the bytes of a type are a record
pub means_at : (v : Value) (s : List ℕ) (r : Bool) (f : Form) → v.elements ≡ map Byte s → v.kind ≡ kind.Of f → r ≡ is_some (record_in f s)
    → IsTrue r ↔ (record_in (form_in v.kind) (encoded Least v) ≡ None → ⊥)
means_at v s r f elements at test =
    let same : record_in (form_in v.kind) (encoded Least v) ≡ record_in f s =
    ap (λ (k : Kind). record_in (form_in k) (encoded Least v)) at ∙ ap (record_in f) (encoded_bytes Least v s elements) in
    (λ h e. some_not_none (record_in f s) (sym test ∙ h) (sym same ∙ e), λ h. test ∙ not_none_some (record_in f s) (λ e. h (same ∙ e)))

-- one field more fits
pub fits_one_more : (d : Dir) (fs : Fields) (i tag : ℕ) (v : Value) → tag < 2 ^ 16 → IsValue v → Allows (role d tag) v
    → slice_get fs i ≡ Some (tag, v)
    → ((k : ℕ) (p : ℕ × Value) → k < i → slice_get fs k ≡ Some p → IsWritableField d p)
    → (k : ℕ) (p : ℕ × Value) → k < i + 1 → slice_get fs k ≡ Some p → IsWritableField d p
fits_one_more d fs i tag v small valid allowed here before k p below e = elim (cases_lt k i) [
  | inl early ↦ before k p early e
  | inr late ↦
      let at : k ≡ i = omega arith in
      let moved : slice_get fs k ≡ slice_get fs i = ap (slice_get fs) at in
      let both : ◌≡◌ {A = Option (ℕ × Value)} (Some (tag, v)) (Some p) = sym here ∙ sym moved ∙ e in
      let same : ◌≡◌ {A = ℕ × Value} (tag, v) p = cc in
      subst (IsWritableField d) same (record { tag = small; allowed = allowed; value = valid })
]

-- the fields of a directory fit exactly if each does
pub fits_all : (d : Dir) (fs : Fields) → Rising (map (λ p. p.0) fs)
    → ((k : ℕ) (p : ℕ × Value) → k < length fs → slice_get fs k ≡ Some p → IsWritableField d p) → AreWritableFields d fs
fits_all d fs rising h = record { rising = rising; each = each_by_get (IsWritableField d) fs h }

-- no field has the tag of a record
pub stands_alone_lem : {X : Type 0} (o : Option X) (x : X) (fs : Fields) (t : ℕ) (got : Option (Bor Value)) (r : Bool)
    → o ≡ Some x → is_some got ≡ not r → option_copied got ≡ at_tag t fs → IsTrue r ↔ IfSome o (λ _. AllByRecursion (λ p. (p.0 ≡ t) → ⊥) fs)
stands_alone_lem {X = X} o x fs t got r here test at =
    subst (λ (q : Option X). IsTrue r ↔ IfSome q (λ _. AllByRecursion (λ (p : ℕ × Value). (p.0 ≡ t) → ⊥) fs)) (sym here)
    (none got r test at)
  where
    none : (got : Option (Bor Value)) (r : Bool) → is_some got ≡ not r → option_copied got ≡ at_tag t fs
        → IsTrue r ↔ AllByRecursion (λ (p : ℕ × Value). (p.0 ≡ t) → ⊥) fs
    none None true test at = (λ _. absent_each t fs (sym at), λ _. refl)
    none None false test at = let clash : false ≡ true = test in absurd (cc)
    none (Some b) true test at = let clash : true ≡ false = test in absurd (cc)
    none (Some b) false test at =
        (λ h. let clash : false ≡ true = h in absurd (cc), λ h. let clash : Some b.now ≡ None = at ∙ each_absent t fs h in absurd (cc))
