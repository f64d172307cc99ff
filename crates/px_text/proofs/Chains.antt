-- Parts added one after another, by calls that may fail.
use Rattle.std.proofs.Common.{◌≡◌, ◌≤◌, ◌++◌, ◌∙◌, ℕ, List, [], ◌∷◌, length, take, Option, Result, sym, ap, subst, append_assoc}
use Rattle.std.specs.List.{flat_map}
use Rattle.std.proofs.lemmas.List.{take_all}
use Rattle.std.proofs.KnownBytes.{Appends-nil}
use Rattle.px_bytes.specs.Devices.{AppendsPrefix, Calls, CanCountFailure, Counts, one_failed}
use Rattle.px_bytes.specs.Waiting.{Buffer, ◌⊕◌, Owes, Puts}
use Rattle.px_bytes.specs.lemmas.WriteLaws.{prefix_first}
use Rattle.px_bytes.specs.lemmas.WaitingLaws.{owes_more, owes_stop, buffer_append, buffer_nil}

-- one part more
pub owes_append : (a b c : Option (List ℕ)) (h k m : Buffer) (xs ys : List ℕ) → Owes a b k (h ⊕ xs) → Owes b c m (k ⊕ ys)
    → Owes a c m (h ⊕ (xs ++ ys))
owes_append a b c h k m xs ys p q = subst (Owes a c m) (buffer_append h xs ys) (owes_more a b c k m (h ⊕ xs) ys p q)

-- the last part failed
pub owes_prefix : (a b c : Option (List ℕ)) (h k : Buffer) (xs ys : List ℕ) → Owes a b k (h ⊕ xs) → AppendsPrefix b c (k.bytes ++ ys)
    → AppendsPrefix a c (h.bytes ++ (xs ++ ys))
owes_prefix a b c h k xs ys p q = subst (AppendsPrefix a c) (append_assoc h.bytes xs ys) (owes_stop a b c k (h ⊕ xs) ys p q)

-- ---- the same bytes

pub puts_as : {A E : Type 0} (r : Result A E) (a b : Option (List ℕ)) (h k : Buffer) (xs ys : List ℕ) → xs ≡ ys → Puts r a b h k xs
    → Puts r a b h k ys
puts_as r a b h k xs ys e p = subst (λ (z : List ℕ). Puts r a b h k z) e p

pub prefix_as : (a b : Option (List ℕ)) (h : Buffer) (xs ys : List ℕ) → xs ≡ ys → AppendsPrefix a b (h.bytes ++ xs)
    → AppendsPrefix a b (h.bytes ++ ys)
prefix_as a b h xs ys e p = subst (λ (z : List ℕ). AppendsPrefix a b (h.bytes ++ z)) e p

pub owes_as : (a b : Option (List ℕ)) (h k : Buffer) (xs ys : List ℕ) → xs ≡ ys → Owes a b k (h ⊕ xs) → Owes a b k (h ⊕ ys)
owes_as a b h k xs ys e p = subst (λ (z : List ℕ). Owes a b k (h ⊕ z)) e p

-- ---- the count of failures, if none was counted so far

pub can_fail : (old now : Calls) → now ≡ old → CanCountFailure old → CanCountFailure now
can_fail old now e h = subst CanCountFailure (sym e) h

pub failures_suc : (old now new : Calls) → now ≡ old → new ≡ one_failed now → new ≡ one_failed old
failures_suc old now new e h = h ∙ ap one_failed e

pub counts_from_eq : {A E : Type 0} (r : Result A E) (old now new : Calls) → now ≡ old → Counts r now new → Counts r old new
counts_from_eq r old now new e h = subst (λ (n : Calls). Counts r n new) e h

-- ---- a walk: the parts of the elements that are left make the rest

-- the elements that are left begin with x
module _ {X : Type 0} (f : X → List ℕ) (xs left : List X) (x : X) (step : xs ≡ x ∷ left) (all : Buffer) where
  rest_next : (out : Buffer) → out ⊕ flat_map f xs ≡ all → out ⊕ f x ⊕ flat_map f left ≡ all
  rest_next out e = buffer_append out (f x) (flat_map f left) ∙ ap (λ (ys : List X). out ⊕ flat_map f ys) (sym step) ∙ e

  -- x was put
  pub walk_next : (a b c : Option (List ℕ)) (k m out : Buffer) → Owes a b k out → out ⊕ flat_map f xs ≡ all → Owes b c m (k ⊕ f x)
      → (now : Buffer) × Owes a c m now × (now ⊕ flat_map f left ≡ all)
  walk_next a b c k m out p e q = (out ⊕ f x, owes_more a b c k m out (f x) p q, rest_next out e)

  -- the put of x failed
  pub walk_stop : (a b c : Option (List ℕ)) (k out : Buffer) → Owes a b k out → out ⊕ flat_map f xs ≡ all → AppendsPrefix b c (k.bytes ++ f x)
      → AppendsPrefix a c all.bytes
  walk_stop a b c k out p e q =
      subst (AppendsPrefix a c) (ap (λ (z : Buffer). z.bytes) (rest_next out e))
      (prefix_first a c (out.bytes ++ f x) (flat_map f left) (owes_stop a b c k out (f x) p q))

-- none is left
pub walk_done : {X : Type 0} (f : X → List ℕ) (xs : List X) (out all : Buffer) → xs ≡ [] → out ⊕ flat_map f xs ≡ all → out ≡ all
walk_done {X} f xs out all none e = buffer_nil out ∙ ap (λ (ys : List X). out ⊕ flat_map f ys) (sym none) ∙ e

-- nothing was put
pub none_yet : (a : Option (List ℕ)) (h : Buffer) (xs : List ℕ) → xs ≡ [] → Owes a a h (h ⊕ xs)
none_yet a h xs e = ([], Appends-nil a, buffer_nil h ∙ ap (λ (z : List ℕ). h ⊕ z) (sym e))

-- all was added, once every element was
pub all_put : {X : Type 0} (f : X → List ℕ) (xs : List X) (i : ℕ) → length xs ≤ i → (a b : Option (List ℕ)) (h k : Buffer)
    → Owes a b k (h ⊕ flat_map f (take i xs)) → Owes a b k (h ⊕ flat_map f xs)
all_put {X} f xs i most a b h k p = subst (λ (ys : List X). Owes a b k (h ⊕ flat_map f ys)) (take_all i xs most) p
