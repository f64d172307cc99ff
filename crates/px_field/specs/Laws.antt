-- The laws of the definitions.
use Rattle.std.specs.Prelude.{◌≡◌, ◌↔◌, ℕ, ◌*◌, ◌%◌, List, length}
use Rattle.px_bytes.specs.declared.Order.{Order}
use Rattle.px_bytes.specs.Numbers.{AreBytes}
use Rattle.px_field.specs.declared.forms.Form.{Form}
use Rattle.px_field.specs.declared.forms.Form.TheVariants.{Long}
use Rattle.px_field.specs.declared.forms.Kind.TheVariants.{Of, Whole}
use Rattle.px_field.specs.Forms.{size}
use Rattle.px_field.specs.Values.{Value, IsValue, IsWhole, form_in, encoded, value_in, whole_in}

-- A value's encoding has as many bytes as its elements take, in either order.
abbrev pub EncodedLength : Type 0
EncodedLength = (o : Order) (v : Value) → IsValue v → length (encoded o v) ≡ length v.elements * size (form_in v.kind)

-- Decoding an encoded value returns it: a whole number is read as LONG and widened.
abbrev pub EncodedReadsBack : Type 0
EncodedReadsBack = ((o : Order) (f : Form) (v : Value) → v.kind ≡ Of f → IsValue v → value_in o f (encoded o v) ≡ v)
    × ((o : Order) (v : Value) → v.kind ≡ Whole → IsValue v → whole_in o Long (encoded o v) ≡ v)

-- The value decoded from a whole number of elements encodes to their bytes, and no other value of its type does.
abbrev pub ReadEncodes : Type 0
ReadEncodes = (o : Order) (f : Form) (v : Value) (raw : List ℕ) → v.kind ≡ Of f → IsValue v → AreBytes raw → length raw % size f ≡ 0 →
    (raw ≡ encoded o v) ↔ (v ≡ value_in o f raw)

-- Decoded elements are in the ranges of their type.
abbrev pub ReadInRange : Type 0
ReadInRange = ((o : Order) (f : Form) (raw : List ℕ) → AreBytes raw → IsValue (value_in o f raw))
    × ((o : Order) (f : Form) (raw : List ℕ) → IsWhole f → AreBytes raw → IsValue (whole_in o f raw))
