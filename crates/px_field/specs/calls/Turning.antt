-- Bytes of elements, read in one byte order and written in another.
use Rattle.std.specs.Prelude.{ℕ, Bool, true, false, List, ◌++◌, take, drop}
use Rattle.px_bytes.specs.declared.Order.{Order}
use Rattle.px_bytes.specs.Numbers.{number, spelling}
use Rattle.px_field.specs.declared.forms.Form.{Form}
use Rattle.px_field.specs.declared.forms.Form.TheVariants as form
use Rattle.px_field.specs.declared.turning.Width.{Width}
use Rattle.px_field.specs.declared.turning.Width.TheVariants as width

-- the width of a type's elements, widened or not
abbrev pub width_of : Bool → Form → Width
width_of true form.Short = width.Widened
width_of true _ = width.Four
width_of false form.Short = width.Two
width_of false form.SShort = width.Two
width_of false form.Long = width.Four
width_of false form.SLong = width.Four
width_of false form.Float = width.Four
width_of false form.Rational = width.Pair
width_of false form.SRational = width.Pair
width_of false form.Double = width.Eight
width_of false _ = width.One

-- the number of an element's bytes when it is read, and when it is written
abbrev pub read_by : Width → ℕ
read_by width.One = 1
read_by width.Two = 2
read_by width.Four = 4
read_by width.Pair = 8
read_by width.Eight = 8
read_by width.Widened = 2

-- only a widened number is written in more bytes than it was read from
abbrev pub written_by : Width → ℕ
written_by width.Widened = 4
written_by w = read_by w

-- the bytes of an element in the order `o` from those in the order `r`
abbrev pub turned : Width → Order → Order → List ℕ → List ℕ
turned width.One r o x = x
turned width.Two r o x = spelling o 2 (number r 2 x)
turned width.Four r o x = spelling o 4 (number r 4 x)
turned width.Pair r o x = spelling o 4 (number r 4 (take 4 x)) ++ spelling o 4 (number r 4 (drop 4 x))
turned width.Eight r o x = spelling o 8 (number r 8 x)
turned width.Widened r o x = spelling o 4 (number r 2 x)
