-- Entries that differ in their places alone are in one order.
use Rattle.std.proofs.Common.{◌≡◌, ◌+◌, ◌<◌, ◌∙◌, refl, ℕ, zero, suc, max, List, [], ◌∷◌, length, get_or, sym, ap, subst}
use Rattle.std.proofs.lemmas.List.{get_or_default}
use Rattle.std.proofs.lemmas.List.Sorted.{IsPermutation-refl}
use Rattle.std.specs.Bool.{⊤}
use Rattle.std.specs.Cmp.Lexicographic.{slice_cmp}
use Rattle.std.specs.Ordering.{nat_cmp, is_lt}
use Rattle.px_xmp_text.specs.Values.{Label, Item, Uri, Compound, Structure, Bag, Seq, Alt, Content, End, written}
use Rattle.px_xmp_forms.specs.Entries.{Value, Plain, Inside, Entry, before, row, entry_octets, Sorts, AreDistinct}
use Rattle.px_xmp.specs.Meaning.{Joins, IsRow}
use Rattle.px_xmp.specs.Readable.{IsOrdered}

-- entries with the same labels and values
abbrev AreAlike : List Entry → List Entry → Type 0
AreAlike [] [] = ⊤
AreAlike [] (f ∷ fs) = ⊥
AreAlike (e ∷ es) [] = ⊥
AreAlike (e ∷ es) (f ∷ fs) = (e.label ≡ f.label) × (e.value ≡ f.value) × AreAlike es fs

-- ---- rows

before_once : (k l : Label) (v w : Value) (c d : Content) → before k v c ≡ before l w d → (k ≡ l) × (v ≡ w) × (c ≡ d)
before_once k l (Plain p) (Plain q) c d h = (cc, cc, cc)
before_once k l (Plain p) (Inside t b) c d h = absurd (cc)
before_once k l (Inside s a) (Plain q) c d h = absurd (cc)
before_once k l (Inside s a) (Inside t b) c d h = (cc, cc, cc)

end_first : (l : Label) (v : Value) (c : Content) → End ≡ before l v c → ⊥
end_first l (Plain p) c h = absurd (cc)
end_first l (Inside s a) c h = absurd (cc)

rows_alike : (es fs : List Entry) → row es ≡ row fs → AreAlike es fs
rows_alike [] [] h = tt
rows_alike [] (f ∷ fs) h = end_first f.label f.value (row fs) h
rows_alike (e ∷ es) [] h = end_first e.label e.value (row es) (sym h)
rows_alike (e ∷ es) (f ∷ fs) h =
    let (labels, values, rest) = before_once e.label f.label e.value f.value (row es) (row fs) h in (labels, values, rows_alike es fs rest)

-- ---- at an index

alike_length : (es fs : List Entry) → AreAlike es fs → length es ≡ length fs
alike_length [] [] h = refl
alike_length [] (f ∷ fs) h = absurd h
alike_length (e ∷ es) [] h = absurd h
alike_length (e ∷ es) (f ∷ fs) h = ap suc (alike_length es fs h.2)

abbrev AreAlikeTwo : Entry → Entry → Type 0
AreAlikeTwo e f = (e.label ≡ f.label) × (e.value ≡ f.value)

alike_at : (es fs : List Entry) → AreAlike es fs → (i : ℕ) (d : Entry) → AreAlikeTwo (get_or es i d) (get_or fs i d)
alike_at [] [] h i d = (refl, refl)
alike_at [] (f ∷ fs) h i d = absurd h
alike_at (e ∷ es) [] h i d = absurd h
alike_at (e ∷ es) (f ∷ fs) h zero d = (h.0, h.1)
alike_at (e ∷ es) (f ∷ fs) h (suc i) d = alike_at es fs h.2 i d

octets_alike : (e f : Entry) → AreAlikeTwo e f → entry_octets e ≡ entry_octets f
octets_alike e f h =
    ap (λ (l : Label). written (before l e.value End) []) h.0 ∙ ap (λ (v : Value). written (before f.label v End) []) h.1

-- ---- what is said of entries

some_entry : Entry
some_entry = record { label = Item; value = Plain (Uri []); place = 0 }

distinct_alike : (es fs : List Entry) → AreAlike es fs → AreDistinct es → AreDistinct fs
distinct_alike es fs h one place r =
    let same : length es ≡ length fs = alike_length es fs h in
    let first : r.first < length es = subst (λ (n : ℕ). r.first < n) (sym same) r.within.0 in
    let second : r.second < length es = subst (λ (n : ℕ). r.second < n) (sym same) r.within.1 in
    one (max (get_or es r.first some_entry).place (get_or es r.second some_entry).place)
    (record {
      first = r.first;
      second = r.second;
      two = r.two;
      within = (first, second);
      label = λ d. (alike_at es fs h r.first d).0 ∙ r.label d ∙ sym (alike_at es fs h r.second d).0;
      place_is = λ d.
          ap (λ (e : Entry). max e.place (get_or es r.second some_entry).place) (get_or_default es r.first some_entry d first)
          ∙ ap (λ (e : Entry). max (get_or es r.first d).place e.place) (get_or_default es r.second some_entry d second);
    })

sorts_alike : (es fs : List Entry) → AreAlike es fs → Sorts es es → Sorts fs fs
sorts_alike es fs h s =
    record {
      same = IsPermutation-refl fs;
      order = λ k d low within.
          let i : k + 1 < length es = subst (λ (n : ℕ). k + 1 < n) (sym (alike_length es fs h)) within in
          ap (λ z. is_lt (slice_cmp nat_cmp z (entry_octets (get_or fs k d))))
          (sym (octets_alike (get_or es (k + 1) d) (get_or fs (k + 1) d) (alike_at es fs h (k + 1) d)))
          ∙ ap (λ z. is_lt (slice_cmp nat_cmp (entry_octets (get_or es (k + 1) d)) z))
          (sym (octets_alike (get_or es k d) (get_or fs k d) (alike_at es fs h k d)))
          ∙ s.order k d low i;
    }

joins_alike : (s : Compound) (es fs : List Entry) → AreAlike es fs → Joins s es es → Joins s fs fs
joins_alike Structure es fs h (one, sorts) = (distinct_alike es fs h one, sorts_alike es fs h sorts)
joins_alike Bag es fs h sorts = sorts_alike es fs h sorts
joins_alike Seq es fs h e = refl
joins_alike Alt es fs h e = refl

-- content in order is what its entries are in order, wherever they are
pub row_ordered : (s : Compound) (c : Content) (es : List Entry) → IsOrdered s c → c ≡ row es → IsRow s es c
row_ordered s c es (gs, e, joins) f = (es, joins_alike s gs es (rows_alike gs es (sym e ∙ f)) joins, f)
