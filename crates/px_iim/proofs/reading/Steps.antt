-- A block, one DataSet on.
use Rattle.std.proofs.Common.{◌≡◌, ℕ, ◌+◌, ◌-◌, ◌<◌, ◌≤◌, zero, suc, nat_le, Bool, true, false, ◌&&◌, if◌then◌else◌, Option, Some, None}
use Rattle.std.proofs.Common.{option_map, is_some, List, [], ◌∷◌, length, drop, refl, sym, ap, ◌∙◌, arith, length-drop, length-take}
use Rattle.std.proofs.Common.{leb-true, le-leb}
use Rattle.std.proofs.lemmas.Bool.{cond-true, cond-false, and_parts, false_from_ne_true, lt-leb}
use Rattle.std.proofs.lemmas.List.{drop-drop}
use Rattle.px_bytes.specs.declared.Cause.{Cause}
use Rattle.px_bytes.specs.declared.Cause.TheVariants.{TooLong}
use Rattle.px_bytes.specs.Checks.{first_false}
use Rattle.px_bytes.specs.Parts.{limit}
use Rattle.px_iim.specs.DataSet.{DataSet}
use Rattle.px_iim.specs.Group.{Record, put, gather}
use Rattle.px_iim.specs.Record.{extra, count, size, is_marked, has_form, is_dataset, dataset, is_end, sequence_of, iim_of}
use Rattle.px_iim.specs.Check.{dataset_checks, iim_checks}
use Rattle.px_iim.specs.calls.Reading.{Reads, found_view}
use Rattle.px_iim.specs.declared.dataset.Found.{Found}
use Rattle.px_iim.specs.lemmas.ScanLaws.{checks_left, dataset_clean, left_fault, left_end, left_more}
use Rattle.px_iim.specs.lemmas.EncodingLaws.{dataset_holds}

-- the DataSets of some octets
unfoldable pub datasets : List ℕ → Option (List DataSet)
datasets x = sequence_of (length x) x

-- ---- how far a walk has to go makes no difference

size_at_least : (x : List ℕ) → length (drop (size x) x) ≤ length x - 5
size_at_least x = omega (arith, length-drop (size x) x)

sequence_of_nil : (n : ℕ) → sequence_of n [] ≡ None
unfolding sequence_of is_dataset
sequence_of_nil zero = refl
sequence_of_nil (suc n) = refl

same_sequence : (n m : ℕ) (x : List ℕ) → length x ≤ n → length x ≤ m → sequence_of n x ≡ sequence_of m x
unfolding sequence_of
same_sequence zero m [] h k = sym (sequence_of_nil m)
same_sequence zero m (y ∷ ys) h k = absurd (omega arith)
same_sequence (suc n) zero [] h k = sequence_of_nil (suc n)
same_sequence (suc n) zero (y ∷ ys) h k = absurd (omega arith)
same_sequence (suc n) (suc m) x h k =
    let l = size_at_least x in
    ap (λ (o : Option (List DataSet)). if is_dataset x then option_map (λ ds. dataset x ∷ ds)
    (if is_end (drop (size x) x) then Some [] else o) else None)
    (same_sequence n m (drop (size x) x) (omega arith) (omega arith))

dataset_length_ge : (x : List ℕ) → is_dataset x ≡ true → 5 ≤ length x
unfolding is_dataset
dataset_length_ge x h =
    let a = and_parts (is_marked x && nat_le 5 (length x) && has_form x && nat_le (5 + extra x) (length x)) (nat_le (size x) (length x)) h
    in
    omega (arith, leb-true (size x) (length x) a.1)

-- ---- one step

pub datasets_none : (x : List ℕ) → is_dataset x ≡ false → datasets x ≡ None
unfolding datasets sequence_of
datasets_none [] e = refl
datasets_none (y ∷ ys) e = cond-false (is_dataset (y ∷ ys)) _ _ e

pub datasets_last : (x : List ℕ) → is_dataset x ≡ true → is_end (drop (size x) x) ≡ true → datasets x ≡ Some (dataset x ∷ [])
unfolding datasets sequence_of
datasets_last [] e f = absurd (omega (arith, dataset_length_ge [] e))
datasets_last (y ∷ ys) e f = cond-true (is_dataset (y ∷ ys)) _ _ e
    ∙ ap (option_map (λ ds. dataset (y ∷ ys) ∷ ds)) (cond-true (is_end (drop (size (y ∷ ys)) (y ∷ ys))) _ _ f)

pub datasets_more : (x : List ℕ) → is_dataset x ≡ true → is_end (drop (size x) x) ≡ false
    → datasets x ≡ option_map (λ ds. dataset x ∷ ds) (datasets (drop (size x) x))
unfolding datasets sequence_of
datasets_more [] e f = absurd (omega (arith, dataset_length_ge [] e))
datasets_more (y ∷ ys) e f =
    let l = size_at_least (y ∷ ys) in
    cond-true (is_dataset (y ∷ ys)) _ _ e
    ∙ ap (option_map (λ ds. dataset (y ∷ ys) ∷ ds))
    (cond-false (is_end (drop (size (y ∷ ys)) (y ∷ ys))) _ _ f
    ∙ same_sequence (length ys) (length (drop (size (y ∷ ys)) (y ∷ ys))) (drop (size (y ∷ ys)) (y ∷ ys)) (omega arith) (omega arith))

-- ---- after a DataSet that was read

first_false_not_dataset : (p : ℕ) (x : List ℕ) (f : Cause × ℕ) → first_false (dataset_checks p x) ≡ Some f → is_dataset x ≡ false
first_false_not_dataset p x f h =
    false_from_ne_true (is_dataset x) (λ e. let clash : ◌≡◌ {A = Option (Cause × ℕ)} None (Some f) = sym (dataset_clean p x e)
    ∙ h in absurd (cc))

pub refused_means : (p : ℕ) (x : List ℕ) (f : Cause × ℕ) → first_false (dataset_checks p x) ≡ Some f → datasets x ≡ None
refused_means p x f h = datasets_none x (first_false_not_dataset p x f h)

pub refused_fault : (p : ℕ) (x : List ℕ) (f : Cause × ℕ) → first_false (dataset_checks p x) ≡ Some f
    → first_false (checks_left p x) ≡ Some f
refused_fault p x f h = left_fault p x (first_false_not_dataset p x f h) ∙ h

part_short : (x : List ℕ) → length (dataset x).octets ≤ length x
unfolding dataset
part_short x = omega (arith, length-take (count x) (drop (5 + extra x) x), length-drop (5 + extra x) x)

module _ (x : List ℕ) (at : ℕ) (f : Found) (r : Reads (drop at x) f) where
  next : drop (size (drop at x)) (drop at x) ≡ drop (at + f.size) x
  next = ap (λ (n : ℕ). drop n (drop at x)) (sym r.sized) ∙ drop-drop f.size at x

  pub dataset_size_ge : 5 ≤ f.size
  dataset_size_ge = omega (arith, r.sized)

  pub octets_within : length x ≤ limit → length f.octets.now ≤ limit
  octets_within h = omega (arith, ap (λ (d : DataSet). length d.octets) r.value, part_short (drop at x), length-drop at x)

  pub dataset_inside : at ≤ length x → at + f.size ≤ length x
  dataset_inside h = omega (arith, r.sized, (dataset_holds (drop at x) r.there).whole, length-drop at x)

  at_end : (b : Bool) → is_end (drop (at + f.size) x) ≡ b → is_end (drop (size (drop at x)) (drop at x)) ≡ b
  at_end b e = ap is_end next ∙ e

  pub meaning_last : is_end (drop (at + f.size) x) ≡ true → datasets (drop at x) ≡ Some (found_view f ∷ [])
  meaning_last e = datasets_last (drop at x) r.there (at_end true e) ∙ ap (λ (d : DataSet). Some (d ∷ [])) (sym r.value)

  pub meaning_more : is_end (drop (at + f.size) x) ≡ false → datasets (drop at x) ≡ option_map (λ ds. found_view f ∷ ds)
      (datasets (drop (at + f.size) x))
  meaning_more e =
      datasets_more (drop at x) r.there (at_end false e)
      ∙ ap (λ (d : DataSet). option_map (λ (ds : List DataSet). d ∷ ds) (datasets (drop (size (drop at x)) (drop at x)))) (sym r.value)
      ∙ ap (λ (y : List ℕ). option_map (λ (ds : List DataSet). found_view f ∷ ds) (datasets y)) next

  pub fault_last : is_end (drop (at + f.size) x) ≡ true → first_false (checks_left at (drop at x)) ≡ None
  fault_last e = left_end at (drop at x) r.there (at_end true e)

  pub fault_more : is_end (drop (at + f.size) x) ≡ false → first_false (checks_left at (drop at x)) ≡ first_false
      (checks_left (at + f.size) (drop (at + f.size) x))
  fault_more e =
      left_more at (drop at x) r.there (at_end false e)
      ∙ ap (λ (n : ℕ). first_false (checks_left (at + n) (drop (size (drop at x)) (drop at x)))) (sym r.sized)
      ∙ ap (λ (y : List ℕ). first_false (checks_left (at + f.size) y)) next

-- ---- the whole

pub iim_of_within : (x : List ℕ) → length x ≤ limit → iim_of x ≡ option_map (gather []) (datasets x)
unfolding iim_of datasets
iim_of_within x h = cond-true (nat_le (length x) limit) _ _ (le-leb (length x) limit h)

pub iim_of_past : (x : List ℕ) → limit < length x → iim_of x ≡ None
unfolding iim_of
iim_of_past x h = cond-false (nat_le (length x) limit) _ _ (lt-leb (length x) limit h)

pub checks_past : (x : List ℕ) → limit < length x → first_false (iim_checks x) ≡ Some (TooLong, limit)
unfolding iim_checks
checks_past x h = cond-false (nat_le (length x) limit) _ _ (lt-leb (length x) limit h)

pub gather_last : (i : Record) (d : DataSet) → option_map (gather i) (Some (d ∷ [])) ≡ Some (put d i)
unfolding gather
gather_last i d = refl

pub gather_more : (i : Record) (d : DataSet) (o : Option (List DataSet))
    → option_map (gather i) (option_map (λ ds. d ∷ ds) o) ≡ option_map (gather (put d i)) o
unfolding gather
gather_more i d None = refl
gather_more i d (Some ds) = refl

pub some_mapped : (i : Record) (o : Option (List DataSet)) → is_some (option_map (gather i) o) ≡ is_some o
some_mapped i None = refl
some_mapped i (Some ds) = refl

pub some_more : (d : DataSet) (o : Option (List DataSet)) → is_some (option_map (λ ds. d ∷ ds) o) ≡ is_some o
some_more d None = refl
some_more d (Some ds) = refl
