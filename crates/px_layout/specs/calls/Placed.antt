-- The bytes of values that have an offset.
use Rattle.std.specs.Prelude.{ℕ, nat_lt, if◌then◌else◌, List, []}
use Rattle.px_bytes.specs.declared.Order.TheVariants.{Most}
use Rattle.px_meaning.specs.Writable.{Item, item_size}
use Rattle.px_layout.specs.Plans.{Plan}
use Rattle.px_layout.specs.Laid.{item_bytes}
use Rattle.px_layout.specs.Normal.{padded}

-- such a value of the normal form with its padding, or nothing if the value is in its entry
abbrev pub placed_bytes : Plan → ℕ × Item → List ℕ
placed_bytes plan i = if nat_lt 4 (item_size i.1) then padded (item_bytes plan Most 0 i.1) else []
