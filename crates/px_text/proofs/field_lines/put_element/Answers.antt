use Rattle.std.proofs.Common.{rules}
use Rattle.px_text.proofs.field_lines.put_element.Goals as goal

pub put_decimal-requires : goal.put_decimal-requires
put_decimal-requires g c = c.requires

pub returns-in-Short : goal.returns-in-Short
returns-in-Short g c =
    (rw c.in-Short.is c.put_decimal.ensures.0, c.put_decimal.ensures.1)

pub put_decimal-requires-in-Long : goal.put_decimal-requires-in-Long
put_decimal-requires-in-Long g c = c.requires

pub returns-in-Long : goal.returns-in-Long
returns-in-Long g c =
    (rw c.in-Long.is c.put_decimal-in-Long.ensures.0, c.put_decimal-in-Long.ensures.1)

pub put_fraction-requires : goal.put_fraction-requires
put_fraction-requires g c = c.requires

pub returns-in-Rational : goal.returns-in-Rational
returns-in-Rational g c =
    (rw c.in-Rational.is c.put_fraction.ensures.0, c.put_fraction.ensures.1)

pub put_decimal-requires-in-SShort : goal.put_decimal-requires-in-SShort
put_decimal-requires-in-SShort g c = c.requires

pub returns-in-SShort : goal.returns-in-SShort
returns-in-SShort g c =
    (search rules, c.put_decimal-in-SShort.ensures.1)

pub put_decimal-requires-in-SLong : goal.put_decimal-requires-in-SLong
put_decimal-requires-in-SLong g c = c.requires

pub returns-in-SLong : goal.returns-in-SLong
returns-in-SLong g c =
    (search rules, c.put_decimal-in-SLong.ensures.1)

pub put_fraction-requires-in-SRational : goal.put_fraction-requires-in-SRational
put_fraction-requires-in-SRational g c = c.requires

pub returns-in-SRational : goal.returns-in-SRational
returns-in-SRational g c =
    (search rules, c.put_fraction-in-SRational.ensures.1)

pub put_digits32-requires : goal.put_digits32-requires
put_digits32-requires g c = c.requires

pub returns-in-Float : goal.returns-in-Float
returns-in-Float g c =
    (rw c.in-Float.is c.put_digits32.ensures.0, c.put_digits32.ensures.1)

pub put_digits64-requires : goal.put_digits64-requires
put_digits64-requires g c = c.requires

pub returns-in-Double : goal.returns-in-Double
returns-in-Double g c =
    (rw c.in-Double.is c.put_digits64.ensures.0, c.put_digits64.ensures.1)
