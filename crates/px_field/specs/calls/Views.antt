-- The value that contracts see of a `Value`.
use Rattle.std.specs.Prelude.{◌≡◌, ◌≤◌, ◌%◌, ℕ, Bool, true, List, length, if◌then◌else◌}
use Rattle.px_bytes.specs.declared.Order.{Order}
use Rattle.px_bytes.specs.Parts.{limit}
use Rattle.px_bytes.specs.Numbers.{AreBytes}
use Rattle.px_field.specs.declared.values.Value.TheInside.{Inside}
use Rattle.px_field.specs.declared.forms.Form.{Form}
use Rattle.px_field.specs.Forms.{size}
use Rattle.px_field.specs.Values as values

-- the value that bytes encode, widened or not
abbrev pub shown : Bool → Order → Form → List ℕ → values.Value
shown widened o f raw = if widened then values.whole_in o f raw else values.value_in o f raw

-- the value of the program's representation: a type, a byte order, bytes, and whether the tag is
-- widened
abbrev pub value_of : Inside → values.Value
value_of v = shown v.widened v.order v.form v.raw.now

-- the bytes are a whole number of elements and no more than the limit, and only whole numbers are widened
pub record IsSound (v : Inside) : Type 0 where
  pub whole : length v.raw.now % size v.form ≡ 0
  pub bounded : length v.raw.now ≤ limit
  pub bytes : AreBytes v.raw.now
  pub width : v.widened ≡ true → values.IsWhole v.form
