-- How the code's DataSets are seen.
use Rattle.std.specs.Prelude.{◌==◌, ℕ, if◌then◌else◌, Some, None, List, drop, map, filter_map}
use Rattle.std.specs.Borrow.{Bor}
use Rattle.px_iim.specs.declared.group.Item.{Item}
use Rattle.px_iim.specs.declared.group.All.{All}
use Rattle.px_iim.specs.DataSet.{DataSet}
use Rattle.px_iim.specs.Group.{Group}

-- an item of a group
abbrev pub item_view : Item → ℕ × List ℕ
item_view x = (x.number, x.octets.now)

-- an item of a group, with its record number, as a DataSet
abbrev pub dataset_view : Item → DataSet
dataset_view x = record { rec = x.rec; number = x.number; octets = x.octets.now }

-- the data of the items of one number
abbrev pub octets_of : ℕ → List (ℕ × List ℕ) → List (List ℕ)
octets_of n items = filter_map (λ x. if x.0 == n then Some x.1 else None) items

-- the data that the iterator `All` has not returned yet
abbrev pub octets_left : All → List (List ℕ)
octets_left a = octets_of a.number (map item_view (drop a.at a.items.now))

-- a group as it is returned: its record, its number, its items
abbrev pub part_view : ℕ × ℕ × Bor (List Item) → Group
part_view p = record { rec = p.0; number = p.1; items = map item_view p.2.now }
