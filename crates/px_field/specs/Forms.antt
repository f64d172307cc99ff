-- Types. TIFF 6.0 section 2, "Types": twelve; Exif 3.0 adds 129, UTF-8.
-- Example: 3 is the number of SHORT, two bytes for each element. 13 is the number of none.
use Rattle.std.specs.Prelude.{ℕ, ◌==◌, Option, List, [], ◌∷◌, find}
use Rattle.px_field.specs.declared.forms.Form.{Form}
use Rattle.px_field.specs.declared.forms.Form.TheVariants.{Byte, Ascii, Short, Long, Rational, SByte, Undefined, SShort, SLong, SRational}
use Rattle.px_field.specs.declared.forms.Form.TheVariants.{Float, Double, Utf8}

-- the number of a type in an entry
abbrev pub code : Form → ℕ
code Byte = 1
code Ascii = 2
code Short = 3
code Long = 4
code Rational = 5
code SByte = 6
code Undefined = 7
code SShort = 8
code SLong = 9
code SRational = 10
code Float = 11
code Double = 12
code Utf8 = 129

-- all thirteen types
abbrev pub forms : List Form
forms = Byte ∷ Ascii ∷ Short ∷ Long ∷ Rational ∷ SByte ∷ Undefined ∷ SShort ∷ SLong ∷ SRational ∷ Float ∷ Double ∷ Utf8 ∷ []

-- the type with that number, if there is one
unfoldable pub form_of : ℕ → Option Form
form_of n = find (λ f. code f == n) forms

-- the bytes of one element: the other five have one
abbrev pub size : Form → ℕ
size Short = 2
size Long = 4
size Rational = 8
size SShort = 2
size SLong = 4
size SRational = 8
size Float = 4
size Double = 8
size _ = 1
