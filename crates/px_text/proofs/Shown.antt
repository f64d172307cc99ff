-- Values as texts, and as bytes.
use Rattle.std.proofs.Common.{◌≡◌, ℕ, Bool, ◌++◌, List, length, [], ◌∷◌, map, true, false, Option, Some, None, option_map, if◌then◌else◌}
use Rattle.std.proofs.Common.{refl, sym, ap, ◌∙◌}
use Rattle.std.specs.Prelude.{◌==◌, codes, IsSome, IfSome, IsTrue, ◌↔◌, is_some}
use Rattle.std.specs.List.{flat_map}
use Rattle.std.specs.Borrow.{Bor}
use Rattle.hex.specs.Hex.{encode_lower}
use Rattle.px_bytes.specs.declared.Order.TheVariants.{Most}
use Rattle.px_field.specs.declared.Form.TheVariants as form
use Rattle.px_field.specs.declared.Kind.{Kind}
use Rattle.px_field.specs.declared.Kind.TheVariants.{Of, Whole}
use Rattle.px_field.specs.declared.Element.{Element}
use Rattle.px_field.specs.declared.Element.TheVariants as element
use Rattle.px_field.specs.Values.{Value, is_bytes, encode, encoded}
use Rattle.px_field.specs.lemmas.ValueLaws.{encode_bytes}
use Rattle.px_text.specs.Words.{shown_bytes}
use Rattle.px_text.specs.Listing.{element_text, divider, shown_elements}
use Rattle.px_text.specs.Captions.{is_text, is_plain, escaped_byte}
use Rattle.px_text.proofs.Parts.{encode_cons, encode_none}

-- some bytes
pub shown_some : (bs : List ℕ) (t : Bool) → t ≡ (length bs == 0) → t ≡ false → codes " " ++ encode_lower bs ≡ shown_bytes bs
shown_some [] t e f = let clash : true ≡ false = sym e ∙ f in absurd (cc)
shown_some (b ∷ bs) t e f = refl

-- a byte that isn't plain
pub escaped_other : (b : ℕ) (t : Bool) → t ≡ is_plain b → t ≡ false → codes "\\" ++ encode_lower (b ∷ []) ≡ escaped_byte b
escaped_other b t e f = sym (ap (λ (u : Bool). if u then b ∷ [] else codes "\\" ++ encode_lower (b ∷ [])) (sym e ∙ f))

-- bytes, one by one
each_byte : (bs : List ℕ) → flat_map (λ y. [] ++ element_text y) (map element.Byte bs) ≡ encode_lower bs
each_byte [] = sym encode_none
each_byte (b ∷ bs) = ap (λ (l : List ℕ). encode_lower (b ∷ []) ++ l) (each_byte bs) ∙ sym (encode_cons b bs)

byte_elements : (k : Kind) (bs : List ℕ) → is_bytes k ≡ true → shown_elements k (map element.Byte bs) ≡ shown_bytes bs
byte_elements k [] h = refl
byte_elements k (b ∷ bs) h =
    let none : divider k ≡ [] = ap (λ t. if t then [] else codes " ") h in
    ap (λ (d : List ℕ). codes " " ++ (encode_lower (b ∷ []) ++ flat_map (λ y. d ++ element_text y) (map element.Byte bs))) none
    ∙ ap (λ (l : List ℕ). codes " " ++ (encode_lower (b ∷ []) ++ l)) (each_byte bs)
    ∙ ap (λ (l : List ℕ). codes " " ++ l) (sym (encode_cons b bs))

-- a value of bytes
pub shown_as_bytes : (k : Kind) (es : List Element) (bs : List ℕ) → is_bytes k ≡ true → es ≡ map element.Byte bs
    → shown_elements k es ≡ shown_bytes bs
shown_as_bytes k es bs h e = ap (shown_elements k) e ∙ byte_elements k bs h

-- a text is bytes
text_is_bytes : (k : Kind) → is_text k ≡ true → is_bytes k ≡ true
text_is_bytes (Of form.Ascii) h = refl
text_is_bytes (Of form.Utf8) h = refl
text_is_bytes (Of form.Byte) h = absurd (cc)
text_is_bytes (Of form.Short) h = absurd (cc)
text_is_bytes (Of form.Long) h = absurd (cc)
text_is_bytes (Of form.Rational) h = absurd (cc)
text_is_bytes (Of form.SByte) h = absurd (cc)
text_is_bytes (Of form.Undefined) h = absurd (cc)
text_is_bytes (Of form.SShort) h = absurd (cc)
text_is_bytes (Of form.SLong) h = absurd (cc)
text_is_bytes (Of form.SRational) h = absurd (cc)
text_is_bytes (Of form.Float) h = absurd (cc)
text_is_bytes (Of form.Double) h = absurd (cc)
text_is_bytes Whole h = absurd (cc)

-- the bytes of a text
pub text_bytes : (v : Value) (r : Option (Bor (List ℕ))) → is_text v.kind ≡ true → (IsSome r ↔ IsTrue (is_bytes v.kind))
    → IfSome r (λ s. v.elements ≡ map element.Byte s.now)
    → option_map (λ x. x.now) r ≡ (if is_text v.kind then Some (encoded Most v) else None)
unfolding encoded
text_bytes v None t which same = let some : is_some {T = Bor (List ℕ)} None ≡ true = which.1 (text_is_bytes v.kind t) in absurd (cc)
text_bytes v (Some s) t which same =
    let all : s.now ≡ encoded Most v = sym (ap (flat_map (encode Most)) same ∙ encode_bytes Most s.now) in
    ap (λ (l : List ℕ). Some l) all ∙ sym (ap (λ u. if u then Some (encoded Most v) else None) t)
