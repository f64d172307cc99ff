-- The attributes of a tag, one after another.
use Rattle.std.proofs.Common.{◌≡◌, ℕ, Bool, true, false, if◌then◌else◌, Option, Some, None, MatchOption, List, [], ◌∷◌, map, sym, ap, subst, refl, ◌∙◌}
use Rattle.px_xmp_marks.specs.Reading.{Attr, Next, next_attribute}
use Rattle.px_xmp_marks.specs.Laws.{AttributesInOrder}
use Rattle.px_xmp_document.specs.Scopes.{Item, Element, ended}
use Rattle.px_xmp_document.specs.Bindings.{declared_prefix}
use Rattle.px_xmp.specs.Tags.{with_prefix, declared, names_language, language_after, is_plain, plain, field_of, fields_in, inside}
use Rattle.px_xmp.specs.calls.Listed.{AreListed, ArePlain, IsNextPlain, first_after, or_rest}

-- n is the first attribute, and others follow it
abbrev pub Follows : Next → List Attr → Type 0
Follows n attributes = (more : List Attr) × (attributes ≡ n.attribute ∷ more) × AreListed n.rest more

pub next_listed : AttributesInOrder → (x : List ℕ) (tail : List Attr) (n : Next) → AreListed x tail → next_attribute x ≡ Some n → Follows n tail
next_listed law x tail n l e = subst (λ (q : Option Next). MatchOption q (tail ≡ []) (λ (m : Next). Follows m tail)) e (law x tail l)

pub none_listed : AttributesInOrder → (x : List ℕ) (tail : List Attr) → AreListed x tail → next_attribute x ≡ None → tail ≡ []
none_listed law x tail l e = subst (λ (q : Option Next). MatchOption q (tail ≡ []) (λ (m : Next). Follows m tail)) e (law x tail l)

-- ---- the next one that declares nothing

plain_if : (a : Attr) (more : List Attr) (b : Bool) → is_plain a.name ≡ b → plain (a ∷ more) ≡ (if b then a ∷ plain more else plain more)
plain_if a more b e = ap (λ (z : Bool). if z then a ∷ plain more else plain more) e

pub passed_plain : AttributesInOrder → (y : List ℕ) (all : List Attr) (n : Next) → ArePlain y all → next_attribute y ≡ Some n
    → is_plain n.attribute.name ≡ false → ArePlain n.rest all
passed_plain law y all n (tail, l, e) f h =
    let (more, same, listed) = next_listed law y tail n l f in
    (more, listed, sym (plain_if n.attribute more false h) ∙ ap plain (sym same) ∙ e)

pub found_plain : AttributesInOrder → (y : List ℕ) (all : List Attr) (n : Next) → ArePlain y all → next_attribute y ≡ Some n
    → is_plain n.attribute.name ≡ true → IsNextPlain (Some n) all
found_plain law y all n (tail, l, e) f h =
    let (more, same, listed) = next_listed law y tail n l f in
    (more, listed, sym e ∙ ap plain same ∙ plain_if n.attribute more true h)

pub no_plain : AttributesInOrder → (y : List ℕ) (all : List Attr) → ArePlain y all → next_attribute y ≡ None → IsNextPlain None all
no_plain law y all (tail, l, e) f = sym e ∙ ap plain (none_listed law y tail l f)

-- ---- what they declare

-- the first that declares nothing, if one was read; else those that are left have it
abbrev pub FirstLeft : Option (List ℕ) → List Attr → List Attr → Type 0
FirstLeft None tail all = plain tail ≡ plain all
FirstLeft (Some x) tail all = ArePlain x all

-- what is left of the attributes leads to what all of them lead to
abbrev pub Left : List ℕ → List Item → Option (List ℕ) → Option (List ℕ) → List Attr → List Item → Type 0
Left y scope language first all outer =
    (tail : List Attr) × AreListed y tail × (declared tail scope ≡ inside outer all) × (language_after language tail ≡ language_after None all)
    × FirstLeft first tail all

first_left : (first : Option (List ℕ)) (y : List ℕ) (a : Attr) (more all : List Attr) (b : Bool) → is_plain a.name ≡ b → AreListed y (a ∷ more)
    → FirstLeft first (a ∷ more) all → FirstLeft (first_after first b y) more all
first_left (Some x) y a more all b h l f = f
first_left None y a more all true h l f = (a ∷ more, l, f)
first_left None y a more all false h l f = sym (plain_if a more false h) ∙ f

pub next_left : AttributesInOrder → (y : List ℕ) (s t outer : List Item) (language spoken first found : Option (List ℕ)) (all : List Attr) (n : Next)
    → Left y s language first all outer → next_attribute y ≡ Some n → t ≡ with_prefix (declared_prefix n.attribute.name) n.attribute.value s
    → spoken ≡ (if names_language n.attribute.name then Some n.attribute.value else language)
    → found ≡ first_after first (is_plain n.attribute.name) y → Left n.rest t spoken found all outer
next_left law y s t outer language spoken first found all n (tail, l, e, g, k) f scope says has =
    let (more, same, listed) = next_listed law y tail n l f in (
      more,
      listed,
      ap (λ (z : List Item). declared more z) scope ∙ ap (λ (z : List Attr). declared z s) (sym same) ∙ e,
      ap (λ (z : Option (List ℕ)). language_after z more) says ∙ ap (λ (z : List Attr). language_after language z) (sym same) ∙ g,
      subst (λ (z : Option (List ℕ)). FirstLeft z more all) (sym has)
          (first_left first y n.attribute more all (is_plain n.attribute.name) refl
          (subst (λ (z : List Attr). AreListed y z) same l) (subst (λ (z : List Attr). FirstLeft first z all) same k)),
    )

-- all of them were read
pub whole_left : AttributesInOrder → (y : List ℕ) (s outer : List Item) (language first : Option (List ℕ)) (all : List Attr)
    → Left y s language first all outer → next_attribute y ≡ None
    → (s ≡ inside outer all) × (language ≡ language_after None all) × ArePlain (or_rest first y) all
whole_left law y s outer language (Some x) all (tail, l, e, g, k) f =
    let none = none_listed law y tail l f in
    (ap (λ (z : List Attr). declared z s) (sym none) ∙ e, ap (λ (z : List Attr). language_after language z) (sym none) ∙ g, k)
whole_left law y s outer language None all (tail, l, e, g, k) f =
    let none = none_listed law y tail l f in
    (ap (λ (z : List Attr). declared z s) (sym none) ∙ e, ap (λ (z : List Attr). language_after language z) (sym none) ∙ g, (tail, l, k))

-- attributes that declare nothing have the same names in one scope
pub fields_same : (a b : List Attr) (s t : List Item) → s ≡ t → plain a ≡ plain b → fields_in s a ≡ fields_in t b
fields_same a b s t e same = ap (λ (z : List Item). fields_in z a) e ∙ ap (λ (z : List Attr). map (field_of t) z) same

-- ---- the end of an element

ended_declared : (attributes : List Attr) (scope : List Item) → ended (declared attributes scope) ≡ ended scope
ended_declared [] scope = refl
ended_declared (a ∷ more) scope = ended_declared more _ ∙ ended_prefix (declared_prefix a.name)
  where
    ended_prefix : (p : Option (List ℕ)) → ended (with_prefix p a.value scope) ≡ ended scope
    ended_prefix None = refl
    ended_prefix (Some q) = refl

-- after an element what is in scope is what was so before it
pub ended_inside : (outer : List Item) (attributes : List Attr) → ended (inside outer attributes) ≡ outer
ended_inside outer attributes = ended_declared attributes (Element ∷ outer)
