-- The attributes of rdf:Description in rdf:RDF, which the output has room for, one after another.
use Rattle.std.proofs.Common.{◌≡◌, ℕ, Bool, true, false, if◌then◌else◌, Option, Some, option_map, List, [], ◌∷◌, refl, subst, map}
use Rattle.px_xmp_marks.specs.Reading.{Attr, next_view}
use Rattle.px_xmp_marks.specs.declared.listing.NextAttribute.{NextAttribute}
use Rattle.px_xmp_document.specs.Scopes.{Item}
use Rattle.px_xmp_forms.specs.Entries.{Entry}
use Rattle.px_xmp.specs.Names.{is_about}
use Rattle.px_xmp.specs.Tags.{Field, field_of, fields_in}
use Rattle.px_xmp.specs.Meaning.{AreAttributes, without_about}
use Rattle.px_xmp.specs.calls.Listed.{AreListed, IsNextPlain}
use Rattle.px_xmp.specs.calls.Fits.{FieldFits, FieldsFit, AreFit}

-- ---- properties beside the name of the subject

abbrev pub PropertiesFit : List ℕ → ℕ → ℕ → List Field → List Entry → Type 0
PropertiesFit l place depth fields es = AreAttributes l place (without_about fields) es × AreFit depth es

-- what is left of them
abbrev pub PropertiesAhead : Option NextAttribute → List Item → List ℕ → ℕ → ℕ → Type 0
PropertiesAhead n scope l place depth =
    (more : List Attr) × IsNextPlain (option_map next_view n) more × (es : List Entry) × PropertiesFit l place depth (fields_in scope more) es

properties_split : (l : List ℕ) (place depth : ℕ) (f : Field) (fields : List Field) (es : List Entry) (b : Bool)
    → AreAttributes l place (if b then fields else f ∷ fields) es → AreFit depth es
    → ((own : List Entry) × AreAttributes l place (if b then [] else f ∷ []) own × AreFit depth own)
    × ((others : List Entry) × AreAttributes l place fields others × AreFit depth others)
properties_split l place depth f fields es true h fit = (([], refl, tt), (es, h, fit))
properties_split l place depth f fields es false (label, t, others, named, says, is, are) fit =
    let all = subst (AreFit depth) is fit in ((_, (label, t, [], named, says, refl, refl), (all.0, tt)), (others, are, all.1))

-- of the first one, and of the others
pub properties_next : (n : Option NextAttribute) (x : NextAttribute) (scope : List Item) (l : List ℕ) (place depth : ℕ) → n ≡ Some x
    → PropertiesAhead n scope l place depth
    → ((own : List Entry) × PropertiesFit l place depth (field_of scope (next_view x).attribute ∷ []) own)
    × ((m : Option NextAttribute) → ((rest : List Attr) → AreListed x.rest.now rest → IsNextPlain (option_map next_view m) rest)
    → PropertiesAhead m scope l place depth)
properties_next n x scope l place depth is (more, found, es, (are, fit)) =
    let (rest, listed, same) = subst (λ (z : Option NextAttribute). IsNextPlain (option_map next_view z) more) is found in
    let f = field_of scope (next_view x).attribute in
    let ((own, own_are, own_fit), (others, left, left_fit)) = properties_split l place depth f (without_about (fields_in scope rest)) es (is_about f.name)
    (subst (λ (z : List Attr). AreAttributes l place (without_about (map (field_of scope) z)) es) same are) fit in
    ((own, (own_are, own_fit)), λ m next. (rest, next rest listed, others, (left, left_fit)))

-- ---- values that are no longer than a packet

abbrev pub FieldsLeft : Option NextAttribute → List Item → Type 0
FieldsLeft n scope = (more : List Attr) × IsNextPlain (option_map next_view n) more × FieldsFit (fields_in scope more)

pub fields_next : (n : Option NextAttribute) (x : NextAttribute) (scope : List Item) → n ≡ Some x → FieldsLeft n scope
    → FieldFits (field_of scope (next_view x).attribute)
    × ((m : Option NextAttribute) → ((rest : List Attr) → AreListed x.rest.now rest → IsNextPlain (option_map next_view m) rest) → FieldsLeft m scope)
fields_next n x scope is (more, found, fit) =
    let (rest, listed, same) = subst (λ (z : Option NextAttribute). IsNextPlain (option_map next_view z) more) is found in
    let all = subst (λ (z : List Attr). FieldsFit (map (field_of scope) z)) same fit in
    (all.0, λ m next. (rest, next rest listed, all.1))
