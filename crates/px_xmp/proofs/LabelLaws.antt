-- The label of a property is that of a name which a normal form can have.
use Rattle.std.proofs.Common.{◌≡◌, ◌≤◌, ◌==◌, ◌&&◌, ◌||◌, inl, inr, ℕ, suc, Bool, true, false, nat_le, if◌then◌else◌, Some, None, List, [], ◌∷◌, ◌++◌, length, refl, sym, ap, subst, ◌∙◌, arith}
use Rattle.std.proofs.lemmas.Bool.{cases_Bool, and_parts, and_from, leb-true, le-leb}
use Rattle.std.specs.List.{AllByRecursion}
use Rattle.px_xmp_text.specs.Values.{Label, Property, Structure, Without}
use Rattle.px_xmp_marks.specs.Grammar.{IsNcName}
use Rattle.px_xmp_marks.specs.Reading as reading
use Rattle.px_xmp_marks.specs.Declarations.{every}
use Rattle.px_xmp_document.specs.Bindings.{is_plain, space_limit}
use Rattle.px_xmp_forms.specs.Labels.{is_name_start, is_name_char, are_name_chars, is_name, name_at_end, before_name, label_of}
use Rattle.px_xmp.specs.Names.{Name, is_property}
use Rattle.px_xmp.specs.Meaning.{label_in}
use Rattle.px_xmp.specs.Readable.{IsReadableLabel}
use Rattle.px_xmp.proofs.AgainLaws.{label_again}
use Rattle.px_xmp.proofs.SoundLaws.{IsPlainSpace, IsSoundName}
use Rattle.px_xmp.proofs.SpaceLaws.{kept_before, kept_known}

-- ---- what is before the name at the end of a namespace

start_is_char : (o : ℕ) → is_name_start o ≡ true → is_name_char o ≡ true
start_is_char o h = ap (λ (b : Bool). b || (nat_le 48 o && nat_le o 57) || (o == 45) || (o == 46)) h

chars_before : (x : List ℕ) → are_name_chars (before_name x) ≡ true → are_name_chars x ≡ true
chars_before [] h = refl
chars_before (o ∷ x) h = by_name (is_name (o ∷ x)) refl (λ k. chars_before x k) h
  where
    by_name : (b : Bool) → is_name (o ∷ x) ≡ b → (are_name_chars (before_name x) ≡ true → are_name_chars x ≡ true)
        → are_name_chars (if b then [] else o ∷ before_name x) ≡ true → are_name_chars (o ∷ x) ≡ true
    by_name true e more h =
        let p = and_parts (is_name_start o) (are_name_chars x) e in and_from (is_name_char o) (are_name_chars x) (start_is_char o p.0) p.1
    by_name false e more h =
        let p = and_parts (is_name_char o) (are_name_chars (before_name x)) h in
        and_from (is_name_char o) (are_name_chars x) p.0 (more p.1)

no_name_before : (o : ℕ) (x : List ℕ) → is_name (o ∷ x) ≡ false → is_name (o ∷ before_name x) ≡ false
no_name_before o x h = elim (cases_Bool (is_name (o ∷ before_name x))) [
  | inl t ↦
      let p = and_parts (is_name_start o) (are_name_chars (before_name x)) t in
      let wrong : true ≡ false = sym (and_from (is_name_start o) (are_name_chars x) p.0 (chars_before x p.1)) ∙ h in absurd (cc)
  | inr f ↦ f
]

-- it has no name at its own end
abbrev HasNone : List ℕ → Type 0
HasNone u = (before_name u ≡ u) × (name_at_end u ≡ [])

none_before : (x : List ℕ) → HasNone (before_name x)
none_before [] = (refl, refl)
none_before (o ∷ x) = by_name (is_name (o ∷ x)) refl (none_before x)
  where
    by_name : (b : Bool) → is_name (o ∷ x) ≡ b → HasNone (before_name x) → HasNone (if b then [] else o ∷ before_name x)
    by_name true e h = (refl, refl)
    by_name false e h =
        let none : is_name (o ∷ before_name x) ≡ false = no_name_before o x e in (
          ap (λ (b : Bool). if b then [] else o ∷ before_name (before_name x)) none ∙ ap (λ (z : List ℕ). o ∷ z) h.0,
          ap (λ (b : Bool). if b then o ∷ before_name x else name_at_end (before_name x)) none ∙ h.1,
        )

abbrev IsPlainText : List ℕ → Type 0
IsPlainText x = (every is_plain x ≡ true) × Without 60 x

before_octets : (x : List ℕ) → IsPlainText x → IsPlainText (before_name x)
before_octets [] h = (refl, tt)
before_octets (o ∷ x) (plain, without) =
    let p = and_parts (is_plain o) (every is_plain x) plain in by_name (is_name (o ∷ x)) p.0 without.0 (before_octets x (p.1, without.1))
  where
    by_name : (b : Bool) → is_plain o ≡ true → (o ≡ 60 → ⊥) → IsPlainText (before_name x) → IsPlainText (if b then [] else o ∷ before_name x)
    by_name true g k h = (refl, tt)
    by_name false g k h = (and_from (is_plain o) (every is_plain (before_name x)) g h.0, (k, h.1))

before_shorter : (x : List ℕ) → length (before_name x) ≤ length x
before_shorter [] = omega (arith)
before_shorter (o ∷ x) = by_name (is_name (o ∷ x)) (before_shorter x)
  where
    by_name : (b : Bool) → length (before_name x) ≤ length x → length (if b then [] else o ∷ before_name x) ≤ suc (length x)
    by_name true h = omega (arith)
    by_name false h = omega (arith, h)

before_plain : (x : List ℕ) → IsPlainSpace x → IsPlainSpace (before_name x)
before_plain x (usual, without, known) =
    let p = and_parts (nat_le (length x) space_limit) (every is_plain x) usual in
    let (plain, others) = before_octets x (p.1, without) in
    let short : length (before_name x) ≤ space_limit = omega (arith, leb-true (length x) space_limit p.0, before_shorter x) in
    let usually = and_from (nat_le (length (before_name x)) space_limit) (every is_plain (before_name x)) (le-leb (length (before_name x)) space_limit short) plain in
    (usually, others, kept_before x (none_before x).0 known)

-- ---- the local name, with the name at the end of the namespace before it

chars_of : (x : List ℕ) → are_name_chars x ≡ true → AllByRecursion (λ o. reading.is_name_char o ≡ true) x
chars_of [] h = tt
chars_of (o ∷ x) h = let p = and_parts (is_name_char o) (are_name_chars x) h in (p.0, chars_of x p.1)

all_chars : (x y : List ℕ) → AllByRecursion (λ o. reading.is_name_char o ≡ true) x → AllByRecursion (λ o. reading.is_name_char o ≡ true) y
    → AllByRecursion (λ o. reading.is_name_char o ≡ true) (x ++ y)
all_chars [] y h k = k
all_chars (o ∷ x) y h k = (h.0, all_chars x y h.1 k)

pub name_chars : (x : List ℕ) → IsNcName x → AllByRecursion (λ o. reading.is_name_char o ≡ true) x
name_chars x is =
    subst (AllByRecursion (λ o. reading.is_name_char o ≡ true)) (sym is.whole) (start_is_char is.first is.begins, is.contains)

names_joined : (o : ℕ) (x y : List ℕ) → is_name (o ∷ x) ≡ true → IsNcName y → IsNcName ((o ∷ x) ++ y)
names_joined o x y h is =
    let p = and_parts (is_name_start o) (are_name_chars x) h in
    record { first = o; others = x ++ y; whole = refl; begins = p.0; contains = all_chars x y (chars_of x p.1) (name_chars y is) }

local_name : (x y : List ℕ) → IsNcName y → IsNcName (name_at_end x ++ y)
local_name [] y is = is
local_name (o ∷ x) y is = by_name (is_name (o ∷ x)) refl (local_name x y is)
  where
    by_name : (b : Bool) → is_name (o ∷ x) ≡ b → IsNcName (name_at_end x ++ y) → IsNcName ((if b then o ∷ x else name_at_end x) ++ y)
    by_name true e h = names_joined o x y e is
    by_name false e h = h

-- ---- labels

if_some : {A : Type 0} (b : Bool) (p q : A) → (if b then Some p else None) ≡ Some q → p ≡ q
if_some true p q h = cc
if_some false p q h = absurd (cc)

pub property_label : (n : Name) (l : Label) → label_in Structure n ≡ Some l → IsSoundName n → IsReadableLabel Structure l
property_label n l h sound =
    let u : List ℕ = before_name n.space in
    let m : List ℕ = name_at_end n.space ++ n.local in
    let same : Property u m ≡ l = if_some (is_property n) (label_of n.space n.local) l h in
    let none : HasNone u = none_before n.space in
    let (label, free, some) = label_again n u m none.0 none.1 (h ∙ ap (λ (z : Label). Some z) (sym same)) in
    let plain : IsPlainSpace u = before_plain n.space sound.0 in
    subst (IsReadableLabel Structure) same ((plain.0, plain.1, free, kept_known u plain.2 some free), local_name n.space n.local sound.1, label)
