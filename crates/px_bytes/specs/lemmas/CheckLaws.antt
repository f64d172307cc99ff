-- The first check that fails, in two lists of checks.
use Rattle.std.proofs.Common.{Option, ◌≡◌, ◌++◌, ℕ, true, false, if◌then◌else◌, List, [], ◌∷◌, Some, None, Result, Ok, Err, refl, sym, ◌∙◌}
use Rattle.px_bytes.specs.declared.causes.Cause.{Cause}
use Rattle.px_bytes.specs.declared.causes.Refusal.{Refusal}
use Rattle.px_bytes.specs.declared.causes.Refusal.TheVariants.{Content, OutOfMemory}
use Rattle.px_bytes.specs.Checks.{Check, first_false, Refuses, Judges}

-- after checks that pass, the first that fails is that of the others
pub first_false_true : (xs ys : List Check) → first_false xs ≡ None → first_false (xs ++ ys) ≡ first_false ys
first_false_true [] ys h = refl
first_false_true (c ∷ xs) ys h =
    (elim c.holds as (λ b. (if b then first_false xs else Some (c.cause, c.place)) ≡ None → (if b then first_false (xs ++ ys) else Some
    (c.cause, c.place)) ≡ first_false ys) [
      | true ↦ λ e. first_false_true xs ys e
      | false ↦ λ e. absurd (cc)
    ]) h

-- the first check that fails is the same whatever follows
pub first_false_false : (xs ys : List Check) (f : Cause × ℕ) → first_false xs ≡ Some f → first_false (xs ++ ys) ≡ Some f
first_false_false [] ys f h = let clash : None ≡ Some f = h in absurd (cc)
first_false_false (c ∷ xs) ys f h =
    (elim c.holds as (λ b. (if b then first_false xs else Some (c.cause, c.place)) ≡ Some
    f → (if b then first_false (xs ++ ys) else Some (c.cause, c.place)) ≡ Some f) [
      | true ↦ λ e. first_false_false xs ys f e
      | false ↦ λ e. e
    ]) h

-- two lists of checks that pass
pub all_true : (xs ys : List Check) → first_false xs ≡ None → first_false ys ≡ None → first_false (xs ++ ys) ≡ None
all_true xs ys h k = first_false_true xs ys h ∙ k

-- a refusal by some checks is one by these and more
pub Refuses_more : (e : Refusal) (xs ys : List Check) → Refuses e xs → Refuses e (xs ++ ys)
Refuses_more (Content cause place) xs ys h = first_false_false xs ys (cause, place) h
Refuses_more OutOfMemory xs ys h = tt

-- a refusal by some checks is one by checks with the same first failure
pub Refuses_same : (e : Refusal) (xs ys : List Check) → first_false xs ≡ first_false ys → Refuses e xs → Refuses e ys
Refuses_same (Content cause place) xs ys same h = sym same ∙ h
Refuses_same OutOfMemory xs ys same h = tt

-- a refusal by some checks is one by these after checks that pass
pub Refuses_after : (e : Refusal) (xs ys : List Check) → first_false xs ≡ None → Refuses e ys → Refuses e (xs ++ ys)
Refuses_after e xs ys h r = Refuses_same e ys (xs ++ ys) (sym (first_false_true xs ys h)) r

-- if all checks pass, a refusal means out of memory
pub Refuses_none : (e : Refusal) (xs ys : List Check) → first_false xs ≡ None → Refuses e xs → Refuses e ys
Refuses_none (Content cause place) xs ys h r =
    let clash : ◌≡◌ {A = Option (Cause × ℕ)} None (Some (cause, place)) = sym h ∙ r in absurd (cc)
Refuses_none OutOfMemory xs ys h r = tt

-- a property of one result is one of the other
pub Judges_good : {X : Type 0} (r : Result X Refusal) (xs : List Check) (good fine : X → Type 0) → ((x : X) → good x → fine x)
    → Judges r xs good → Judges r xs fine
Judges_good (Ok x) xs good fine f j = (j.0, f x j.1)
Judges_good (Err e) xs good fine f j = j
