-- Values: the elements that bytes encode. TIFF 6.0 section 2, "Types".
-- Example: 00 01 00 02, most significant byte first, are as SHORT the elements 1 and 2, and as LONG the element 65,538.
-- 00 00 00 01 00 00 00 02 is as RATIONAL one element, 1/2, and another one than 2/4.
use Rattle.std.specs.Prelude.{ℕ, ◌^◌, ◌/◌, ◌<◌, Bool, true, false, List, [], ◌∷◌, ◌++◌, length, map, take, drop, flat_map, slice_index}
use Rattle.std.specs.Prelude.{FitsSigned}
use Rattle.std.specs.List.{AllByRecursion}
use Rattle.std.specs.Int.{w16, w32, cast_signed, cast_unsigned}
use Rattle.px_bytes.specs.declared.Order.{Order}
use Rattle.px_bytes.specs.Numbers.{number, spelling}
use Rattle.px_bytes.specs.Parts.{pieces}
use Rattle.px_field.specs.declared.forms.Form.{Form}
use Rattle.px_field.specs.declared.forms.Form.TheVariants as form
use Rattle.px_field.specs.declared.forms.Kind.{Kind}
use Rattle.px_field.specs.declared.forms.Kind.TheVariants as kind
use Rattle.px_field.specs.declared.forms.Element.{Element}
use Rattle.px_field.specs.declared.forms.Element.TheVariants as element
use Rattle.px_field.specs.Forms.{size}

-- the bytes of an element: a fraction is two numbers, the numerator first; signed numbers are two's complement; FLOAT and
-- DOUBLE are bit patterns; the five byte types have one byte in either order
abbrev pub encode : Order → Element → List ℕ
encode o (element.Byte n) = n ∷ []
encode o (element.Short n) = spelling o 2 n
encode o (element.Long n) = spelling o 4 n
encode o (element.Rational n d) = spelling o 4 n ++ spelling o 4 d
encode o (element.SShort z) = spelling o 2 (cast_unsigned w16 z)
encode o (element.SLong z) = spelling o 4 (cast_unsigned w32 z)
encode o (element.SRational y z) = spelling o 4 (cast_unsigned w32 y) ++ spelling o 4 (cast_unsigned w32 z)
encode o (element.Float n) = spelling o 4 n
encode o (element.Double n) = spelling o 8 n

-- the element of a type that bytes encode
abbrev pub element_of : Order → Form → List ℕ → Element
element_of o form.Short x = element.Short (number o 2 x)
element_of o form.Long x = element.Long (number o 4 x)
element_of o form.Rational x = element.Rational (number o 4 (take 4 x)) (number o 4 (drop 4 x))
element_of o form.SShort x = element.SShort (cast_signed w16 (number o 2 x))
element_of o form.SLong x = element.SLong (cast_signed w32 (number o 4 x))
element_of o form.SRational x = element.SRational (cast_signed w32 (number o 4 (take 4 x))) (cast_signed w32 (number o 4 (drop 4 x)))
element_of o form.Float x = element.Float (number o 4 x)
element_of o form.Double x = element.Double (number o 8 x)
element_of o _ x = element.Byte (slice_index x 0)

-- an element is of a type and in its range
abbrev pub IsOf : Form → Element → Type 0
IsOf form.Short (element.Short n) = n < 2 ^ 16
IsOf form.Long (element.Long n) = n < 2 ^ 32
IsOf form.Rational (element.Rational n d) = (n < 2 ^ 32) × (d < 2 ^ 32)
IsOf form.SShort (element.SShort z) = FitsSigned w16 z
IsOf form.SLong (element.SLong z) = FitsSigned w32 z
IsOf form.SRational (element.SRational y z) = FitsSigned w32 y × FitsSigned w32 z
IsOf form.Float (element.Float n) = n < 2 ^ 32
IsOf form.Double (element.Double n) = n < 2 ^ 64
IsOf form.Byte (element.Byte n) = n < 2 ^ 8
IsOf form.Ascii (element.Byte n) = n < 2 ^ 8
IsOf form.SByte (element.Byte n) = n < 2 ^ 8
IsOf form.Undefined (element.Byte n) = n < 2 ^ 8
IsOf form.Utf8 (element.Byte n) = n < 2 ^ 8
IsOf _ _ = ⊥

-- the type in which a kind is written
abbrev pub form_in : Kind → Form
form_in (kind.Of f) = f
form_in kind.Whole = form.Long

-- a value: its kind and its elements
pub record Value : Type 0 where
  pub kind : Kind
  pub elements : List Element

-- each element is of the value's kind
abbrev pub IsValue : Value → Type 0
IsValue v = AllByRecursion (IsOf (form_in v.kind)) v.elements

-- the bytes of a value, element by element
unfoldable pub encoded : Order → Value → List ℕ
encoded o v = flat_map (encode o) v.elements

-- the n elements of a type that bytes encode
unfoldable pub elements : Order → Form → ℕ → List ℕ → List Element
elements o f n raw = map (element_of o f) (pieces n (size f) raw)

-- an unsigned number of two or of four bytes as one of four
abbrev pub widened : Element → Element
widened (element.Short n) = element.Long n
widened e = e

-- how many elements of a type the bytes contain
abbrev pub count_in : Form → List ℕ → ℕ
count_in f raw = length raw / size f

-- the value of a type that bytes encode
abbrev pub value_in : Order → Form → List ℕ → Value
value_in o f raw = record { kind = kind.Of f; elements = elements o f (count_in f raw) raw }

-- the value that bytes encode at a tag that treats SHORT and LONG as one: of kind `Whole`
abbrev pub whole_in : Order → Form → List ℕ → Value
whole_in o f raw = record { kind = kind.Whole; elements = map widened (elements o f (count_in f raw) raw) }

-- the types that a whole number is read from
abbrev pub IsWhole : Form → Type 0
IsWhole form.Short = Unit {0}
IsWhole form.Long = Unit {0}
IsWhole _ = ⊥

-- the kinds whose elements are bytes
abbrev pub is_bytes : Kind → Bool
is_bytes (kind.Of form.Byte) = true
is_bytes (kind.Of form.Ascii) = true
is_bytes (kind.Of form.SByte) = true
is_bytes (kind.Of form.Undefined) = true
is_bytes (kind.Of form.Utf8) = true
is_bytes _ = false
