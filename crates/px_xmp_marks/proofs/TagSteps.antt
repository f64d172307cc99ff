-- Attributes taken one by one.
use Rattle.std.proofs.Common.{◌≡◌, ◌≤◌, ◌<◌, ◌+◌, ◌==◌, ℕ, zero, suc, true, false, cond, List, [], ◌∷◌, ◌++◌, drop, length, map, set, take}
use Rattle.std.proofs.Common.{Option, Some, None, option_map, option_and_then, refl, sym, ap, ◌∙◌, arith, append_assoc, append-nil}
use Rattle.std.proofs.lemmas.Bool.{cond-true, cond-false, ne_eqb}
use Rattle.std.proofs.lemmas.List.{take_more_set, map-append}
use Rattle.px_xmp_marks.specs.Reading.{Attr, attribute_view, space_len, ends_tag, attribute, attributes_in}
use Rattle.px_xmp_marks.specs.declared.attributes.Attribute.{Attribute}

abbrev pub Listed : Type 0
Listed = List Attr × ℕ

-- what follows the white space at the start
abbrev pub after_space : List ℕ → List ℕ
after_space y = drop (space_len y) y

abbrev pub last : List ℕ → Option Listed
last y = Some ([], space_len y)

abbrev pub first : ℕ → List ℕ → Option Listed
first n y = option_and_then (λ a. option_map (λ r. (a ∷ r.0, space_len y + a.size + r.1)) (attributes_in n (drop a.size (after_space y))))
    (attribute (after_space y))

-- the end of a tag
pub ends_here : (m at : ℕ) (y : List ℕ) → 0 < m → ends_tag (after_space y) ≡ true
    → option_map (λ (r : Listed). at + r.1) (attributes_in m y) ≡ Some (at + space_len y)
unfolding attributes_in
ends_here zero at y h e = absurd (omega arith)
ends_here (suc n) at y h e =
    ap (option_map (λ (r : Listed). at + r.1)) (cond-true (ends_tag (after_space y)) (last y) (cond (space_len y == 0) None (first n y)) e)

-- neither the end of a tag nor white space
pub no_space : (m at : ℕ) (y : List ℕ) → ends_tag (after_space y) ≡ false → space_len y ≡ 0
    → option_map (λ (r : Listed). at + r.1) (attributes_in m y) ≡ None
unfolding attributes_in
no_space zero at y e s = refl
no_space (suc n) at y e s =
    ap (option_map (λ (r : Listed). at + r.1)) (cond-false (ends_tag (after_space y)) (last y) (cond (space_len y == 0) None (first n y)) e
    ∙ ap (λ (j : ℕ). cond (j == 0) None (first n y)) s)

pub to_first : (n : ℕ) (y : List ℕ) → ends_tag (after_space y) ≡ false → 1 ≤ space_len y → attributes_in (suc n) y ≡ first n y
unfolding attributes_in
to_first n y e s =
    cond-false (ends_tag (after_space y)) (last y) (cond (space_len y == 0) None (first n y)) e
    ∙ cond-false (space_len y == 0) None (first n y) (ne_eqb (space_len y) 0 (λ z. omega (arith, s, z)))

-- no attribute
pub no_attribute : (m at : ℕ) (y : List ℕ) → ends_tag (after_space y) ≡ false → 1 ≤ space_len y → attribute (after_space y) ≡ None
    → option_map (λ (r : Listed). at + r.1) (attributes_in m y) ≡ None
unfolding attributes_in
no_attribute zero at y e s h = refl
no_attribute (suc n) at y e s h =
    ap (option_map (λ (r : Listed). at + r.1)) (to_first n y e s
    ∙ ap (option_and_then (λ (a : Attr). option_map (λ (r : Listed). (a ∷ r.0, space_len y + a.size + r.1)) (attributes_in n (drop a.size (after_space y))))) h)

added : (at k : ℕ) (a : Attr) (q : Option Listed)
    → option_map (λ (r : Listed). at + r.1) (option_map (λ (r : Listed). (a ∷ r.0, k + r.1)) q) ≡ option_map (λ (r : Listed). at + k + r.1) q
added at k a None = refl
added at k a (Some r) = ap Some (omega arith)

-- an attribute, and what follows it
pub one_more : (m at : ℕ) (y : List ℕ) (a : Attr) → 0 < m → ends_tag (after_space y) ≡ false → 1 ≤ space_len y
    → attribute (after_space y) ≡ Some a
    → (j : ℕ) × (m ≡ suc j) × (option_map (λ (r : Listed). at + r.1) (attributes_in m y)
    ≡ option_map (λ (r : Listed). at + (space_len y + a.size) + r.1) (attributes_in j (drop a.size (after_space y))))
unfolding attributes_in
one_more zero at y a l e s h = absurd (omega arith)
one_more (suc n) at y a l e s h = (
  n,
  refl,
  ap (option_map (λ (r : Listed). at + r.1)) (to_first n y e s
      ∙ ap (option_and_then (λ (a : Attr). option_map (λ (r : Listed). (a ∷ r.0, space_len y + a.size + r.1)) (attributes_in n (drop a.size (after_space y))))) h)
      ∙ added at (space_len y + a.size) a (attributes_in n (drop a.size (after_space y))),
)

-- ---- attributes that are stored as they are read

-- after the attributes `seen` in so many octets
abbrev pub after : List Attr → ℕ → Listed → Listed
after seen at r = (seen ++ r.0, at + r.1)

pub all_listed : (m : ℕ) (y : List ℕ) → 0 < m → ends_tag (after_space y) ≡ true → attributes_in m y ≡ last y
unfolding attributes_in
all_listed zero y h e = absurd (omega arith)
all_listed (suc n) y h e = cond-true (ends_tag (after_space y)) (last y) (cond (space_len y == 0) None (first n y)) e

pub none_listed : (m : ℕ) (y : List ℕ) → ends_tag (after_space y) ≡ false → space_len y ≡ 0 → attributes_in m y ≡ None
unfolding attributes_in
none_listed zero y e s = refl
none_listed (suc n) y e s =
    cond-false (ends_tag (after_space y)) (last y) (cond (space_len y == 0) None (first n y)) e
    ∙ ap (λ (j : ℕ). cond (j == 0) None (first n y)) s

pub wrong_listed : (m : ℕ) (y : List ℕ) → ends_tag (after_space y) ≡ false → 1 ≤ space_len y → attribute (after_space y) ≡ None
    → attributes_in m y ≡ None
unfolding attributes_in
wrong_listed zero y e s h = refl
wrong_listed (suc n) y e s h =
    to_first n y e s
    ∙ ap (option_and_then (λ (a : Attr). option_map (λ (r : Listed). (a ∷ r.0, space_len y + a.size + r.1)) (attributes_in n (drop a.size (after_space y))))) h

seen_more : (seen : List Attr) (at k : ℕ) (a : Attr) (q : Option Listed)
    → option_map (after seen at) (option_map (λ (r : Listed). (a ∷ r.0, k + r.1)) q) ≡ option_map (after (seen ++ a ∷ []) (at + k)) q
seen_more seen at k a None = refl
seen_more seen at k a (Some r) =
    let size : at + (k + r.1) ≡ at + k + r.1 = omega arith in
    ap (λ (j : ℕ). Some (seen ++ a ∷ r.0, j)) size
    ∙ ap (λ (z : List Attr). Some (z, at + k + r.1)) (sym (append_assoc seen (a ∷ []) r.0))

pub more_listed : (m at : ℕ) (seen : List Attr) (y : List ℕ) (a : Attr) → 0 < m → ends_tag (after_space y) ≡ false → 1 ≤ space_len y
    → attribute (after_space y) ≡ Some a
    → (j : ℕ) × (m ≡ suc j) × (option_map (after seen at) (attributes_in m y)
    ≡ option_map (after (seen ++ a ∷ []) (at + (space_len y + a.size))) (attributes_in j (drop a.size (after_space y))))
unfolding attributes_in
more_listed zero at seen y a l e s h = absurd (omega arith)
more_listed (suc n) at seen y a l e s h = (
  n,
  refl,
  ap (option_map (after seen at)) (to_first n y e s
      ∙ ap (option_and_then (λ (a : Attr). option_map (λ (r : Listed). (a ∷ r.0, space_len y + a.size + r.1)) (attributes_in n (drop a.size (after_space y))))) h)
      ∙ seen_more seen at (space_len y + a.size) a (attributes_in n (drop a.size (after_space y))),
)

-- the first n attributes are stored, if there is room for them
abbrev pub AreStored : ℕ → List Attribute → List Attr → Type 0
AreStored n space seen = n ≤ length space → map attribute_view (take n space) ≡ seen

pub one_stored : (n : ℕ) (space new : List Attribute) (seen : List Attr) (a : Attribute) → length new ≡ length space
    → (n < length space → new ≡ set space n a) → AreStored n space seen → AreStored (n + 1) new (seen ++ attribute_view a ∷ [])
one_stored n space new seen a long same all h =
    let room : n < length space = omega (arith, h, long) in
    ap (λ (z : List Attribute). map attribute_view (take (n + 1) z)) (same room)
    ∙ ap (λ (z : List Attribute). map attribute_view z) (take_more_set space n a room) ∙ map-append attribute_view (take n space) (a ∷ [])
    ∙ ap (λ (z : List Attr). z ++ attribute_view a ∷ []) (all (omega (arith, room)))

pub all_stored : (at k : ℕ) (seen : List Attr) → option_map (after seen at) (Some ([], k)) ≡ Some (seen, at + k)
all_stored at k seen = ap (λ (z : List Attr). Some (z, at + k)) (append-nil seen)

pub none_seen : (q : Option Listed) → option_map (after [] 0) q ≡ q
none_seen None = refl
none_seen (Some (attributes, n)) =
    let size : 0 + n ≡ n = omega arith in ap (λ (j : ℕ). Some (attributes, j)) size
