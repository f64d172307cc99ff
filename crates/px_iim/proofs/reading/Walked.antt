-- A block gone through, with what was read of it.
use Rattle.std.proofs.Common.{◌≡◌, ◌+◌, ℕ, Option, Some, None, true, option_map, List, [], ◌∷◌, ◌++◌, length, drop, inl, inr}
use Rattle.std.proofs.Common.{refl, sym, ap, ◌∙◌, append_assoc, get_or, replicate, subst}
use Rattle.std.specs.List.{AllByRecursion}
use Rattle.std.proofs.lemmas.Bool.{cases_Bool}
use Rattle.std.proofs.lemmas.List.{get_or-replicate}
use Rattle.px_iim.specs.declared.dataset.Found.{Found}
use Rattle.px_iim.specs.DataSet.{DataSet}
use Rattle.px_iim.specs.Record.{is_dataset, is_end, sequence_of}
use Rattle.px_iim.specs.calls.Reading.{Reads, found_view}
use Rattle.px_iim.specs.calls.Filling.{Counts}
use Rattle.px_iim.proofs.reading.Steps.{datasets, datasets_none, meaning_last, meaning_more}

pub datasets_is : (x : List ℕ) → datasets x ≡ sequence_of (length x) x
unfolding datasets
datasets_is x = refl

-- those that were read, and those that are left
abbrev pub after : List DataSet → Option (List DataSet) → Option (List DataSet)
after front o = option_map (λ (rest : List DataSet). front ++ rest) o

pub none_read : (o : Option (List DataSet)) → after [] o ≡ o
none_read None = refl
none_read (Some ds) = refl

pub none_left : (front all : List DataSet) (o : Option (List DataSet)) → o ≡ None → after front o ≡ Some all → ⊥
none_left front all o e h = let clash : ◌≡◌ {A = Option (List DataSet)} None (Some all) = sym (ap (after front) e) ∙ h in cc

-- if the octets that are left mean DataSets, one is at their start
pub one_left : (front all : List DataSet) (y : List ℕ) → after front (datasets y) ≡ Some all → is_dataset y ≡ true
one_left front all y h = elim (cases_Bool (is_dataset y)) [
  | inl t ↦ t
  | inr f ↦ absurd (none_left front all (datasets y) (datasets_none y f) h)
]

pub last_left : (front : List DataSet) (d : DataSet) (o p : Option (List DataSet)) → o ≡ Some (d ∷ []) → after front o ≡ p
    → p ≡ Some (front ++ d ∷ [])
last_left front d o p e h = sym h ∙ ap (after front) e

pub more_left : (front : List DataSet) (d : DataSet) (o p q : Option (List DataSet)) → o ≡ option_map (λ ds. d ∷ ds) p → after front o ≡ q
    → after (front ++ d ∷ []) p ≡ q
more_left front d o None q e h = sym (ap (after front) e) ∙ h
more_left front d o (Some ds) q e h =
    ap (λ (xs : List DataSet). Some xs) (append_assoc front (d ∷ []) ds) ∙ sym (ap (after front) e) ∙ h

some_rest : (front all : List DataSet) (d : DataSet) (o p : Option (List DataSet)) → o ≡ option_map (λ ds. d ∷ ds) p
    → after front o ≡ Some all → (rest : List DataSet) × (all ≡ front ++ d ∷ rest)
some_rest front all d o None e h = absurd (none_left front all o e h)
some_rest front all d o (Some ds) e h =
    let s : ◌≡◌ {A = Option (List DataSet)} (Some (front ++ d ∷ ds)) (Some all) = sym (ap (after front) e) ∙ h in
    let q : front ++ d ∷ ds ≡ all = cc in (ds, sym q)

pub one_all : (xs all : List DataSet) → Some all ≡ Some xs → all ≡ xs
one_all xs all e = cc

-- a DataSet that was read is one of all
pub rest_is : (x : List ℕ) (at : ℕ) (f : Found) (r : Reads (drop at x) f) (front all : List DataSet)
    → after front (datasets (drop at x)) ≡ Some all → (rest : List DataSet) × (all ≡ front ++ found_view f ∷ rest)
rest_is x at f r front all h = elim (cases_Bool (is_end (drop (at + f.size) x))) [
  | inl t ↦ (
    [],
    one_all (front ++ found_view f ∷ []) all (last_left front (found_view f) (datasets (drop at x)) (Some all) (meaning_last x at f r t) h),
  )
  | inr e ↦ some_rest front all (found_view f) (datasets (drop at x)) (datasets (drop (at + f.size) x)) (meaning_more x at f r e) h
]

pub none_counted : (key : DataSet → ℕ) (n : ℕ) (counts : List ℕ) → counts ≡ replicate n 0 → Counts key n [] counts
none_counted key n counts e k l = ap (λ (xs : List ℕ). get_or xs k 0) e ∙ get_or-replicate n k 0 0 l

one_of : (P : DataSet → Type 0) (front rest : List DataSet) (d : DataSet) → AllByRecursion P (front ++ d ∷ rest) → P d
one_of P [] rest d a = a.0
one_of P (x ∷ xs) rest d a = one_of P xs rest d a.1

-- what is true of all is true of one that was read
pub each_read : (P : DataSet → Type 0) (x : List ℕ) (at : ℕ) (f : Found) (r : Reads (drop at x) f) (front all : List DataSet)
    → after front (datasets (drop at x)) ≡ Some all → AllByRecursion P all → P (found_view f)
each_read P x at f r front all h a =
    let (rest, w) = rest_is x at f r front all h in one_of P front rest (found_view f) (subst (AllByRecursion P) w a)
