-- The laws of the definitions.
use Rattle.std.specs.Prelude.{◌≡◌, ℕ, ◌*◌, ◌<◌, ◌≤◌, ◌↔◌, List, length}
use Rattle.px_bytes.specs.declared.Order.{Order}
use Rattle.px_bytes.specs.declared.Order.TheVariants.{Most}
use Rattle.px_bytes.specs.Numbers.{AreBytes}
use Rattle.px_bytes.specs.Parts.{limit}
use Rattle.px_meaning.specs.Tree.{Meaning}
use Rattle.px_meaning.specs.Says.{SaysExif}
use Rattle.px_meaning.specs.Writable.{IsWritable}
use Rattle.px_layout.specs.Plans.{Plan, Legal}
use Rattle.px_layout.specs.Laid.{laid}
use Rattle.px_layout.specs.Normal.{normal_plan, normal_exif}

-- A block that a legal plan lays out has its meaning, in either byte order, with any filler.
abbrev pub LegalBlockHasMeaning : Type 0
LegalBlockHasMeaning = (m : Meaning) (plan : Plan) (o : Order) (filler : ℕ) → IsWritable m → Legal m plan
    → SaysExif (laid m plan o filler) m

-- The normal form is laid out by its plan, which is legal.
abbrev pub NormalIsLaid : Type 0
NormalIsLaid =
    (m : Meaning) → IsWritable m → length (normal_exif m) ≤ limit → Legal m (normal_plan m)
    × (normal_exif m ≡ laid m (normal_plan m) Most 0)

-- Two meanings have the same normal form exactly if they are the same, and a normal form has its meaning.
abbrev pub FormDecides : Type 0
FormDecides = (s t : Meaning) → IsWritable s → IsWritable t → length (normal_exif s) ≤ limit → length (normal_exif t) ≤ limit
    → ((normal_exif s ≡ normal_exif t) ↔ (s ≡ t)) × SaysExif (normal_exif s) s

-- A normal form is at most twice as long as any block with its meaning.
abbrev pub NormalBound : Type 0
NormalBound = (b : List ℕ) (m : Meaning) → AreBytes b → SaysExif b m → length (normal_exif m) ≤ 2 * length b

-- A block that is laid out is made of bytes.
abbrev pub LaidIsBytes : Type 0
LaidIsBytes = (m : Meaning) (plan : Plan) (o : Order) (filler : ℕ) → filler < 256 → IsWritable m → AreBytes (laid m plan o filler)
