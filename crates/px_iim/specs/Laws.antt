-- The laws of the definitions.
use Rattle.std.specs.Prelude.{◌≡◌, ◌≤◌, ◌⊎◌, ◌↔◌, ◌*◌, ℕ, List, [], ◌∷◌, ◌++◌, Some, length, filter_map}
use Rattle.px_bytes.specs.declared.Cause.{Cause}
use Rattle.px_bytes.specs.Numbers.{AreBytes}
use Rattle.px_bytes.specs.Parts.{limit}
use Rattle.px_iim.specs.DataSet.{DataSet}
use Rattle.px_iim.specs.Group.{Record, items_at, item_in, IsAscending, put, Gathers, gather, IsRecord}
use Rattle.px_iim.specs.Record.{SaysIim, iim_of, normal_iim}
use Rattle.px_iim.specs.Check.{FirstIimFault, IimFault}

-- A block has at most one record.
abbrev pub OneRecord : Type 0
OneRecord = (x : List ℕ) (i j : Record) → SaysIim x i → SaysIim x j → i ≡ j

-- The record of a block can be computed.
abbrev pub Computes : Type 0
Computes = (x : List ℕ) (i : Record) → SaysIim x i ↔ (iim_of x ≡ Some i)

-- A new DataSet is the last of its group's list, and no other list changes.
abbrev pub PutAppends : Type 0
PutAppends = (d : DataSet) (i : Record) → IsAscending i →
    IsAscending (put d i) × ((rec number : ℕ) → items_at rec number (put d i) ≡ items_at rec number i
    ++ filter_map (item_in rec number) (d ∷ []))

-- A sequence is gathered by putting its DataSets one after another.
abbrev pub GatherGathers : Type 0
GatherGathers = (ds : List DataSet) (i : Record) → Gathers ds i ↔ (gather [] ds ≡ i)

-- The meaning of a block of bytes is a valid record.
abbrev pub MeaningIsRecord : Type 0
MeaningIsRecord = (x : List ℕ) (i : Record) → AreBytes x → SaysIim x i → IsRecord i

-- A normal form has five bytes or more, and has its record as its meaning.
abbrev pub FormHasMeaning : Type 0
FormHasMeaning =
    (i : Record) → IsRecord i → AreBytes (normal_iim i) × (5 ≤ length (normal_iim i)) × (length (normal_iim i) ≤ limit → SaysIim
    (normal_iim i) i)

-- Records have one normal form exactly if they are one.
abbrev pub FormDecides : Type 0
FormDecides = (i j : Record) → IsRecord i → IsRecord j → length (normal_iim i) ≤ limit → length (normal_iim j) ≤ limit
    → (normal_iim i ≡ normal_iim j) ↔ (i ≡ j)

-- A normal form is at most twice as long as any block with its record.
abbrev pub NormalBound : Type 0
NormalBound = (x : List ℕ) (i : Record) → SaysIim x i → length (normal_iim i) ≤ 2 * length x

-- The first fault is a fault. A block with a fault has no record, and each block has a record or a first fault.
abbrev pub FaultsDecide : Type 0
FaultsDecide = ((x : List ℕ) (c : Cause) (p : ℕ) → FirstIimFault x c p → IimFault x c p)
    × ((x : List ℕ) (c : Cause) (p : ℕ) (i : Record) → IimFault x c p → SaysIim x i → ⊥)
    × ((x : List ℕ) → ((i : Record) × SaysIim x i) ⊎ ((c : Cause) × (p : ℕ) × FirstIimFault x c p))

-- The first fault of a block is at an offset of at most the limit, however long the block is.
abbrev pub FaultsBounded : Type 0
FaultsBounded = (x : List ℕ) (c : Cause) (p : ℕ) → FirstIimFault x c p → p ≤ limit
