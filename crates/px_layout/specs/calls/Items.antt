-- The program's representation of a directory's entries: its fields, and up to four further entries among them.
use Rattle.std.specs.Prelude.{ℕ, suc, ◌≤◌, ◌*◌, nat_lt, if◌then◌else◌, ⊤, List, [], ◌∷◌, length, map}
use Rattle.std.specs.List.{AllByRecursion}
use Rattle.px_bytes.specs.Parts.{limit}
use Rattle.px_meaning.specs.Iim.{normal_iim}
use Rattle.px_meaning.specs.Writable.{Item, Field, Iptc, AtJpeg, JpegSize, AtStrips, StripSizes}
use Rattle.px_meaning.specs.Writable as writable
use Rattle.px_layout.specs.declared.items.Item as program
use Rattle.px_layout.specs.declared.items.Entry.{Entry}
use Rattle.px_layout.specs.declared.items.Item.TheVariants as item_as

-- the meaning of an item of the code
abbrev pub item_of : program.Item → Item
item_of (item_as.Field v) = Field v.now
item_of (item_as.Record i) = Iptc i.now
item_of (item_as.Link d) = writable.Link d
item_of item_as.JpegOffset = AtJpeg
item_of (item_as.JpegLength n) = JpegSize n
item_of (item_as.StripOffsets s) = AtStrips (length s.now)
item_of (item_as.StripLengths s) = StripSizes (map (λ x. length x) s.now)

-- an entry of the code, likewise
abbrev pub entry_of : Entry → ℕ × Item
entry_of x = (x.tag, item_of x.item)

-- an item's counts and lengths are of four bytes
abbrev pub CountsFit : Item → Type 0
CountsFit (Iptc i) = length (normal_iim i) ≤ 2 * limit
CountsFit (JpegSize n) = n ≤ limit
CountsFit (AtStrips n) = n ≤ limit
CountsFit (StripSizes ns) = (length ns ≤ limit) × AllByRecursion (λ n. n ≤ limit) ns
CountsFit _ = ⊤

-- the number of pairs before the first of a greater tag
abbrev pub rank : {X : Type 0} → ℕ → List (ℕ × X) → ℕ
rank t [] = 0
rank t (y ∷ ys) = if nat_lt t y.0 then 0 else suc (rank t ys)
