-- How many bytes the calls ask for at most.
use Rattle.std.specs.Prelude.{◌≡◌, ℕ, ◌+◌, ◌*◌, ◌/◌, max, length, flat_map, Result, Ok, Err, ⊤}
use Rattle.px_bytes.specs.declared.Refusal.{Refusal}
use Rattle.px_bytes.specs.declared.Refusal.TheVariants.{Content, OutOfMemory}
use Rattle.px_bytes.specs.Allocations.{MemoryCounts}
use Rattle.px_iim.specs.Group.{Record}

-- the bytes of a DataSet in a record, besides its data
abbrev pub item_bytes : ℕ
item_bytes = 24

-- the bytes of a counter for each group that a record can have
abbrev pub counter_bytes : ℕ
counter_bytes = 262144

-- to read a block of n bytes: each of its DataSets has at least five bytes
abbrev pub iim_request : ℕ → ℕ
iim_request n = item_bytes * (n / 5) + counter_bytes

-- for a block that is refused nothing is asked for
abbrev pub RefusesFirst : {A : Type 0} → Result A Refusal → MemoryCounts → MemoryCounts → Type 0
RefusesFirst (Ok x) old new = ⊤
RefusesFirst (Err (Content cause place)) old new = new.asked ≡ old.asked
RefusesFirst (Err OutOfMemory) old new = ⊤

-- the number of DataSets of a record
abbrev pub dataset_count : Record → ℕ
dataset_count i = length (flat_map (λ g. g.items) i)

-- to put one more DataSet after n others: the whole new list, which has space for half as many more, and for at least three
abbrev pub put_request : ℕ → ℕ
put_request n = item_bytes * (n + max 3 (n / 2))
