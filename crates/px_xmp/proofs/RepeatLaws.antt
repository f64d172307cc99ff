-- Entries in another order have the same labels twice.
use Rattle.std.proofs.Common.{◌≡◌, ◌≢◌, ◌<◌, ◌∙◌, ◌⊎◌, inl, inr, refl, ℕ, List, sym, ap, length, get_or, arith, max}
use Rattle.std.proofs.lemmas.Bool.{cases_eq}
use Rattle.std.proofs.lemmas.List.Sorted.{IsPermutation-keeps}
use Rattle.std.proofs.lemmas.List.Edits.{Swapped, swapped_from_swap, length-swap}
use Rattle.std.specs.List.{swap}
use Rattle.std.specs.List.Sorted.{IsPermutation}
use Rattle.px_xmp_forms.specs.Entries.{Entry, IsRepeated, AreDistinct}

-- ---- a place after a swap

-- a swap of a and b exchanges the places k and m
abbrev Exchanged : ℕ → ℕ → ℕ → ℕ → Type 0
Exchanged a b k m = ((k ≡ a) × (m ≡ b)) ⊎ (((k ≡ b) × (m ≡ a)) ⊎ ((k ≢ a) × (k ≢ b) × (m ≡ k)))

record Moved (a b k n m : ℕ) : Type 1 where
  pub which : Exchanged a b k m
  pub inside : m < n
  pub to : (X : Type 0) (xs : List X) (d : X) → length xs ≡ n → get_or (swap xs a b) k d ≡ get_or xs m d
  pub back : (X : Type 0) (xs : List X) (d : X) → length xs ≡ n → get_or (swap xs a b) m d ≡ get_or xs k d

moved : (a b k n : ℕ) → a < n → b < n → k < n → (m : ℕ) × Moved a b k n m
moved a b k n p q l = by_cases (cases_eq k a) (cases_eq k b)
  where
    swapped : (X : Type 0) (xs : List X) (d : X) → length xs ≡ n → Swapped (λ i. get_or xs i d) (λ i. get_or (swap xs a b) i d) a b
    swapped X xs d e = swapped_from_swap xs (swap xs a b) a b d (omega arith) (omega arith) refl

    by_cases : (k ≡ a) ⊎ (k ≢ a) → (k ≡ b) ⊎ (k ≢ b) → (m : ℕ) × Moved a b k n m
    by_cases (inl i) y = (
      b,
      record {
        which = inl (i, refl);
        inside = q;
        to = λ X xs d e. ap (λ (j : ℕ). get_or (swap xs a b) j d) i ∙ (swapped X xs d e).0;
        back = λ X xs d e. (swapped X xs d e).1 ∙ ap (λ (j : ℕ). get_or xs j d) (sym i);
      },
    )
    by_cases (inr i) (inl j) = (
      a,
      record {
        which = inr (inl (j, refl));
        inside = p;
        to = λ X xs d e. ap (λ (j : ℕ). get_or (swap xs a b) j d) j ∙ (swapped X xs d e).1;
        back = λ X xs d e. (swapped X xs d e).0 ∙ ap (λ (j : ℕ). get_or xs j d) (sym j);
      },
    )
    by_cases (inr i) (inr j) = (
      k,
      record {
        which = inr (inr (i, j, refl));
        inside = l;
        to = λ X xs d e. (swapped X xs d e).2 k i j;
        back = λ X xs d e. (swapped X xs d e).2 k i j;
      },
    )

repeated_swap : (place : ℕ) (es : List Entry) (a b : ℕ) → a < length es → b < length es → IsRepeated es place → IsRepeated (swap es a b) place
repeated_swap place es a b p q r =
    let len = length-swap es a b in
    let (i, x) = moved a b r.first (length es) p q r.within.0 in
    let (j, y) = moved a b r.second (length es) p q r.within.1 in
    record {
      first = i;
      second = j;
      two = λ e. let u = x.which in let v = y.which in r.two (omega arith);
      within = (omega (arith, x.inside), omega (arith, y.inside));
      label = λ d. ap (λ (e : Entry). e.label) (x.back Entry es d refl) ∙ r.label d ∙ sym (ap (λ (e : Entry). e.label) (y.back Entry es d refl));
      place_is = λ d.
          r.place_is d
          ∙ ap (λ (n : ℕ). max n (get_or es r.second d).place) (sym (ap (λ (e : Entry). e.place) (x.back Entry es d refl)))
          ∙ ap (λ (n : ℕ). max (get_or (swap es a b) i d).place n) (sym (ap (λ (e : Entry). e.place) (y.back Entry es d refl)));
    }

pub repeated_moved : (place : ℕ) (es fs : List Entry) → IsPermutation es fs → IsRepeated es place → IsRepeated fs place
repeated_moved place es fs p r = IsPermutation-keeps es (λ zs. IsRepeated zs place) r (λ zs a b l m s. repeated_swap place zs a b l m s) fs p

pub distinct_moved : (es fs : List Entry) → IsPermutation es fs → AreDistinct fs → AreDistinct es
distinct_moved es fs p h place r = h place (repeated_moved place es fs p r)
