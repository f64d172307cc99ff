-- The names of attributes, stored one after another.
use Rattle.std.proofs.Common.{◌≡◌, ◌<◌, ◌+◌, Some, None, Option, option_map, MatchOption, List, [], ◌∷◌, ◌++◌, ℕ, length, take, set, map, sym, ap, subst, ◌∙◌, arith, append_assoc, append-nil, length-append}
use Rattle.std.proofs.lemmas.List.{take_more_set, map-append, length-map, length-take-le}
use Rattle.px_xmp_marks.specs.Reading.{Attr, Named, Next, attributes_of, next_attribute, name_view}
use Rattle.px_xmp_marks.specs.Laws.{AttributesInOrder}
use Rattle.px_xmp_marks.specs.declared.names.Name.{Name}

-- these attributes are at the start of x
abbrev pub AreAttributes : List ℕ → List Attr → Type 0
AreAttributes x attributes = option_map (λ (r : List Attr × ℕ). r.0) (attributes_of x) ≡ Some attributes

abbrev pub names_of : List Attr → List Named
names_of attributes = map (λ (a : Attr). a.name) attributes

-- n is the first attribute, and others follow it
abbrev Follows : Next → List Attr → Type 0
Follows n attributes = (more : List Attr) × (attributes ≡ n.attribute ∷ more) × AreAttributes n.rest more

-- the first n names are stored, and the others are left
abbrev pub NamesLeft : ℕ → List Name → List ℕ → List Attr → Type 0
NamesLeft n names y attributes = (tail : List Attr) × AreAttributes y tail × (map name_view (take n names) ++ names_of tail ≡ names_of attributes)

pub name_more : AttributesInOrder → (n : ℕ) (names : List Name) (m : Name) (y : List ℕ) (attributes : List Attr) (a : Next) → n < length names
    → NamesLeft n names y attributes → next_attribute y ≡ Some a → a.attribute.name ≡ name_view m
    → NamesLeft (n + 1) (set names n m) a.rest attributes
name_more law n names m y attributes a h (tail, l, e) f g =
    let Q : Option Next → Type 0 = λ q. MatchOption q (tail ≡ []) (λ (z : Next). Follows z tail) in
    let (more, same, left) = subst Q f (law y tail l) in (
      more,
      left,
      ap (λ (z : List Name). map name_view z ++ names_of more) (take_more_set names n m h)
          ∙ ap (λ (z : List Named). z ++ names_of more) (map-append name_view (take n names) (m ∷ []))
          ∙ append_assoc (map name_view (take n names)) (name_view m ∷ []) (names_of more)
          ∙ ap (λ (z : Named). map name_view (take n names) ++ (z ∷ names_of more)) (sym g)
          ∙ ap (λ (z : List Attr). map name_view (take n names) ++ names_of z) (sym same) ∙ e,
    )

pub names_many : AttributesInOrder → (n : ℕ) (names : List Name) (y : List ℕ) (attributes : List Attr) (a : Next) → n ≡ length names
    → NamesLeft n names y attributes → next_attribute y ≡ Some a → length names < length attributes
names_many law n names y attributes a h (tail, l, e) f =
    let Q : Option Next → Type 0 = λ q. MatchOption q (tail ≡ []) (λ (z : Next). Follows z tail) in
    let (more, same, left) = subst Q f (law y tail l) in
    let size = ap length e in
    let first = length-append (map name_view (take n names)) (names_of tail) in
    omega (
      arith,
      h,
      size,
      first,
      ap length same,
      length-map (take n names) name_view,
      length-take-le n names (omega (arith, h)),
      length-map tail (λ (a : Attr). a.name),
      length-map attributes (λ (a : Attr). a.name),
    )

pub names_all : AttributesInOrder → (n : ℕ) (names : List Name) (y : List ℕ) (attributes : List Attr) → NamesLeft n names y attributes
    → next_attribute y ≡ None → map name_view (take n names) ≡ names_of attributes
names_all law n names y attributes (tail, l, e) f =
    let Q : Option Next → Type 0 = λ q. MatchOption q (tail ≡ []) (λ (z : Next). Follows z tail) in
    let none = subst Q f (law y tail l) in
    sym (append-nil (map name_view (take n names))) ∙ ap (λ (z : List Attr). map name_view (take n names) ++ names_of z) (sym none) ∙ e
