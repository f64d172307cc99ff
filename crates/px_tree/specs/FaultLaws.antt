-- The laws of the footprint and of faults.
use Rattle.std.specs.Prelude.{◌≡◌, ℕ, ◌≤◌, ◌⊎◌, List, length, map, slice_index}
use Rattle.std.specs.List.{AllByRecursion}
use Rattle.px_bytes.specs.declared.Order.{Order}
use Rattle.px_bytes.specs.declared.Cause.{Cause}
use Rattle.px_bytes.specs.Parts.{limit}
use Rattle.px_bytes.specs.Range.{IsIn}
use Rattle.px_meaning.specs.Tree.{Meaning}
use Rattle.px_meaning.specs.Footprint.{footprint}
use Rattle.px_meaning.specs.Says.{SaysExif}
use Rattle.px_tree.specs.Checks.{FirstExifFault}
use Rattle.px_tree.specs.Faults.{owners, ExifFault}

-- Bytes outside the footprint have no meaning.
abbrev pub FootprintCounts : Type 0
FootprintCounts = (b c : List ℕ) (m : Meaning) (s : SaysExif b m) → length b ≤ length c → length c ≤ limit →
    AllByRecursion (λ r. (p : ℕ) → IsIn p r → slice_index c p ≡ slice_index b p) (footprint b s.order) → SaysExif c m

-- The owners of bytes, each with its offset, make up the footprint.
abbrev pub OwnersOwn : Type 0
OwnersOwn = (b : List ℕ) (o : Order) → map (λ x. x.1) (owners b o) ≡ footprint b o

-- The first fault is a fault. A block with a fault has no meaning, and each block has a meaning or a first fault.
abbrev pub FaultsDecide : Type 0
FaultsDecide = ((b : List ℕ) (c : Cause) (p : ℕ) → FirstExifFault b c p → ExifFault b c p)
    × ((b : List ℕ) (c : Cause) (p : ℕ) (m : Meaning) → ExifFault b c p → SaysExif b m → ⊥)
    × ((b : List ℕ) → ((m : Meaning) × SaysExif b m) ⊎ ((c : Cause) × (p : ℕ) × FirstExifFault b c p))

-- The first fault of a block is at an offset of at most the limit, however long the block is.
abbrev pub FaultsBounded : Type 0
FaultsBounded = (b : List ℕ) (c : Cause) (p : ℕ) → FirstExifFault b c p → p ≤ limit
