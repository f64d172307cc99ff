-- Laws of the numbers of types.
use Rattle.std.proofs.Common.{◌≡◌, ◌<◌, ◌^◌, Some, refl, arith}
use Rattle.px_field.specs.declared.forms.Form.{Form}
use Rattle.px_field.specs.declared.forms.Form.TheVariants.{Byte, Ascii, Short, Long, Rational, SByte, Undefined, SShort, SLong, SRational}
use Rattle.px_field.specs.declared.forms.Form.TheVariants.{Float, Double, Utf8}
use Rattle.px_field.specs.Forms.{code, form_of}

-- the type of a type's number is that type
pub form_of_code : (f : Form) → form_of (code f) ≡ Some f
unfolding form_of
form_of_code Byte = refl
form_of_code Ascii = refl
form_of_code Short = refl
form_of_code Long = refl
form_of_code Rational = refl
form_of_code SByte = refl
form_of_code Undefined = refl
form_of_code SShort = refl
form_of_code SLong = refl
form_of_code SRational = refl
form_of_code Float = refl
form_of_code Double = refl
form_of_code Utf8 = refl

-- a type's number takes two bytes
pub code_lt : (f : Form) → code f < 2 ^ 16
code_lt Byte = omega arith
code_lt Ascii = omega arith
code_lt Short = omega arith
code_lt Long = omega arith
code_lt Rational = omega arith
code_lt SByte = omega arith
code_lt Undefined = omega arith
code_lt SShort = omega arith
code_lt SLong = omega arith
code_lt SRational = omega arith
code_lt Float = omega arith
code_lt Double = omega arith
code_lt Utf8 = omega arith
