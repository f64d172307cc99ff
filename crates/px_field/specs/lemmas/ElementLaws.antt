-- Laws of elements: decoding an encoded element returns it, and encoding a decoded one returns its bytes.
use Rattle.std.proofs.Common.{◌≡◌, ℕ, ◌+◌, ◌^◌, ◌<◌, List, [], ◌∷◌, ◌++◌, length, take, drop, slice_index, refl, sym, ◌∙◌, ap, ap₂, arith}
use Rattle.std.proofs.Common.{length-append, length-drop, take-append-drop}
use Rattle.std.specs.Int.{w16, w32, cast_signed, cast_unsigned}
use Rattle.std.proofs.lemmas.Int.{of_z-to_z}
use Rattle.std.proofs.lemmas.List.{take_at, drop_at, length-take-le, nil_from_length}
use Rattle.std.proofs.Math.Facts.{Fits-of_z, to_z-of_z, sfits_to_z, Fits-of_lt}
use Rattle.px_bytes.specs.declared.Order.{Order}
use Rattle.px_bytes.specs.Numbers.{number, spelling, AreBytes}
use Rattle.px_bytes.specs.lemmas.NumberLaws.{number_spelling, spelling_number, length_spelling, number_lt}
use Rattle.px_field.specs.declared.forms.Form.{Form}
use Rattle.px_field.specs.declared.forms.Form.TheVariants as form
use Rattle.px_field.specs.declared.forms.Element.{Element}
use Rattle.px_field.specs.declared.forms.Element.TheVariants as element
use Rattle.px_field.specs.Forms.{size}
use Rattle.px_field.specs.Values.{encode, element_of, IsOf}
use Rattle.px_field.specs.lemmas.PieceLaws.{bytes_take, bytes_drop}

-- a type has a size
pub size_pos : (f : Form) → 0 < size f
size_pos form.Byte = omega arith
size_pos form.Ascii = omega arith
size_pos form.Short = omega arith
size_pos form.Long = omega arith
size_pos form.Rational = omega arith
size_pos form.SByte = omega arith
size_pos form.Undefined = omega arith
size_pos form.SShort = omega arith
size_pos form.SLong = omega arith
size_pos form.SRational = omega arith
size_pos form.Float = omega arith
size_pos form.Double = omega arith
size_pos form.Utf8 = omega arith

two_long : (o : Order) (n d : ℕ) → length (spelling o 4 n ++ spelling o 4 d) ≡ 8
two_long o n d = length-append (spelling o 4 n) (spelling o 4 d) ∙ ap₂ (λ x y. x + y) (length_spelling o 4 n) (length_spelling o 4 d)

-- an element's encoding has the length of its type
pub length_encode : (o : Order) (f : Form) (e : Element) → IsOf f e → length (encode o e) ≡ size f
length_encode o form.Short (element.Short n) h = length_spelling o 2 n
length_encode o form.Long (element.Long n) h = length_spelling o 4 n
length_encode o form.Rational (element.Rational n d) h = two_long o n d
length_encode o form.SShort (element.SShort z) h = length_spelling o 2 (cast_unsigned w16 z)
length_encode o form.SLong (element.SLong z) h = length_spelling o 4 (cast_unsigned w32 z)
length_encode o form.SRational (element.SRational y z) h = two_long o (cast_unsigned w32 y) (cast_unsigned w32 z)
length_encode o form.Float (element.Float n) h = length_spelling o 4 n
length_encode o form.Double (element.Double n) h = length_spelling o 8 n
length_encode o form.Byte (element.Byte n) h = refl
length_encode o form.Ascii (element.Byte n) h = refl
length_encode o form.SByte (element.Byte n) h = refl
length_encode o form.Undefined (element.Byte n) h = refl
length_encode o form.Utf8 (element.Byte n) h = refl
length_encode o _ _ h = absurd h

two_back : (o : Order) (n d : ℕ) → n < 2 ^ 32 → d < 2 ^ 32 →
    (number o 4 (take 4 (spelling o 4 n ++ spelling o 4 d)) ≡ n) × (number o 4 (drop 4 (spelling o 4 n ++ spelling o 4 d)) ≡ d)
two_back o n d h k = (
  ap (number o 4) (take_at (spelling o 4 n) (spelling o 4 d) 4 (length_spelling o 4 n)) ∙ number_spelling o 4 n h,
  ap (number o 4) (drop_at (spelling o 4 n) (spelling o 4 d) 4 (length_spelling o 4 n)) ∙ number_spelling o 4 d k,
)

-- decoding an encoded element returns it
pub element_of_encode : (o : Order) (f : Form) (e : Element) → IsOf f e → element_of o f (encode o e) ≡ e
element_of_encode o form.Short (element.Short n) h = ap element.Short (number_spelling o 2 n h)
element_of_encode o form.Long (element.Long n) h = ap element.Long (number_spelling o 4 n h)
element_of_encode o form.Rational (element.Rational n d) h = let e = two_back o n d h.0 h.1 in ap₂ element.Rational e.0 e.1
element_of_encode o form.SShort (element.SShort z) h =
    ap element.SShort (ap (cast_signed w16) (number_spelling o 2 (cast_unsigned w16 z) (omega (arith, Fits-of_z h))) ∙ to_z-of_z h)
element_of_encode o form.SLong (element.SLong z) h =
    ap element.SLong (ap (cast_signed w32) (number_spelling o 4 (cast_unsigned w32 z) (omega (arith, Fits-of_z h))) ∙ to_z-of_z h)
element_of_encode o form.SRational (element.SRational y z) h =
    let e = two_back o (cast_unsigned w32 y) (cast_unsigned w32 z) (omega (arith, Fits-of_z h.0)) (omega (arith, Fits-of_z h.1)) in
    ap₂ element.SRational (ap (cast_signed w32) e.0 ∙ to_z-of_z h.0) (ap (cast_signed w32) e.1 ∙ to_z-of_z h.1)
element_of_encode o form.Float (element.Float n) h = ap element.Float (number_spelling o 4 n h)
element_of_encode o form.Double (element.Double n) h = ap element.Double (number_spelling o 8 n h)
element_of_encode o form.Byte (element.Byte n) h = refl
element_of_encode o form.Ascii (element.Byte n) h = refl
element_of_encode o form.SByte (element.Byte n) h = refl
element_of_encode o form.Undefined (element.Byte n) h = refl
element_of_encode o form.Utf8 (element.Byte n) h = refl
element_of_encode o _ _ h = absurd h

two_placed : (o : Order) (x : List ℕ) → length x ≡ 8 → AreBytes x
    → spelling o 4 (number o 4 (take 4 x)) ++ spelling o 4 (number o 4 (drop 4 x)) ≡ x
two_placed o x l h =
    ap₂ (λ a b. a ++ b) (spelling_number o 4 (take 4 x) (length-take-le 4 x (omega arith)) (bytes_take 4 x h))
    (spelling_number o 4 (drop 4 x) (length-drop 4 x ∙ omega arith) (bytes_drop 4 x h))
    ∙ take-append-drop 4 x

one_placed : (x : List ℕ) → length x ≡ 1 → slice_index x 0 ∷ [] ≡ x
one_placed [] l = absurd (omega arith)
one_placed (y ∷ x) l = ap (λ z. y ∷ z) (sym (nil_from_length x (omega arith)))

number_below_16 : (o : Order) (x : List ℕ) → AreBytes x → number o 2 x < 2 ^ 16
number_below_16 o x h = number_lt o 2 x h

number_below_32 : (o : Order) (x : List ℕ) → AreBytes x → number o 4 x < 2 ^ 32
number_below_32 o x h = number_lt o 4 x h

number_below_64 : (o : Order) (x : List ℕ) → AreBytes x → number o 8 x < 2 ^ 64
number_below_64 o x h = number_lt o 8 x h

-- encoding a decoded element returns its bytes
pub encode_element_of : (o : Order) (f : Form) (x : List ℕ) → length x ≡ size f → AreBytes x → encode o (element_of o f x) ≡ x
encode_element_of o form.Short x l h = spelling_number o 2 x l h
encode_element_of o form.Long x l h = spelling_number o 4 x l h
encode_element_of o form.Rational x l h = two_placed o x l h
encode_element_of o form.SShort x l h = ap (spelling o 2) (of_z-to_z w16 (number o 2 x) (number_below_16 o x h)) ∙ spelling_number o 2 x l h
encode_element_of o form.SLong x l h = ap (spelling o 4) (of_z-to_z w32 (number o 4 x) (number_below_32 o x h)) ∙ spelling_number o 4 x l h
encode_element_of o form.SRational x l h =
    ap₂ (λ a b. spelling o 4 a ++ spelling o 4 b) (of_z-to_z w32 (number o 4 (take 4 x)) (number_below_32 o (take 4 x) (bytes_take 4 x h)))
    (of_z-to_z w32 (number o 4 (drop 4 x)) (number_below_32 o (drop 4 x) (bytes_drop 4 x h)))
    ∙ two_placed o x l h
encode_element_of o form.Float x l h = spelling_number o 4 x l h
encode_element_of o form.Double x l h = spelling_number o 8 x l h
encode_element_of o form.Byte x l h = one_placed x l
encode_element_of o form.Ascii x l h = one_placed x l
encode_element_of o form.SByte x l h = one_placed x l
encode_element_of o form.Undefined x l h = one_placed x l
encode_element_of o form.Utf8 x l h = one_placed x l

-- a decoded element is of its type and in its range
pub IsOf_element_of : (o : Order) (f : Form) (x : List ℕ) → AreBytes x → IsOf f (element_of o f x)
IsOf_element_of o form.Short x h = number_below_16 o x h
IsOf_element_of o form.Long x h = number_below_32 o x h
IsOf_element_of o form.Rational x h = (number_below_32 o (take 4 x) (bytes_take 4 x h), number_below_32 o (drop 4 x) (bytes_drop 4 x h))
IsOf_element_of o form.SShort x h = sfits_to_z (Fits-of_lt (number_below_16 o x h))
IsOf_element_of o form.SLong x h = sfits_to_z (Fits-of_lt (number_below_32 o x h))
IsOf_element_of o form.SRational x h = (
  sfits_to_z (Fits-of_lt (number_below_32 o (take 4 x) (bytes_take 4 x h))),
  sfits_to_z
      (Fits-of_lt (number_below_32 o (drop 4 x) (bytes_drop 4 x h))),
)
IsOf_element_of o form.Float x h = number_below_32 o x h
IsOf_element_of o form.Double x h = number_below_64 o x h
IsOf_element_of o form.Byte x h = h 0
IsOf_element_of o form.Ascii x h = h 0
IsOf_element_of o form.SByte x h = h 0
IsOf_element_of o form.Undefined x h = h 0
IsOf_element_of o form.Utf8 x h = h 0
