-- Groups of DataSets. The order of DataSets matters only inside a group; IIM 4.2, chapter 6, relates some DataSets of record 2 to
-- others by their order.
-- Example: of the DataSets 2:25 `a`, 2:80 `b`, 2:25 `c`, 2:85 `d`, in this order, the groups are 2:25 with `a` and `c`, and 2:80
-- with 80 `b` and 85 `d`.
use Rattle.std.specs.Prelude.{◌≡◌, ◌<◌, ◌≤◌, ◌==◌, ℕ, nat_lt, Bool, true, ◌&&◌, ◌||◌, if◌then◌else◌, Option, Some, None, List, [], ◌∷◌}
use Rattle.std.specs.Prelude.{◌++◌, length, filter_map, ⊤}
use Rattle.std.specs.List.{AllByRecursion}
use Rattle.px_bytes.specs.Numbers.{AreBytes}
use Rattle.px_bytes.specs.Parts.{limit}
use Rattle.px_iim.specs.DataSet.{DataSet}

-- a group: the record and the number that name it, and its DataSets in order, each as its number and its data
pub record Group : Type 0 where
  pub rec : ℕ
  pub number : ℕ
  pub items : List (ℕ × List ℕ)

-- the meaning of a block: its groups, in ascending order of record, then number
abbrev pub Record : Type 0
Record = List Group

-- the number that names a DataSet's group: 2:27 (name of a content location) is with 2:26 (its code), 2:47 and 2:50 (date and
-- number of a reference) with 2:45 (its service), 2:85 (by-line title) with 2:80 (by-line)
unfoldable pub named : ℕ → ℕ → ℕ
named rec number =
    if rec == 2 then (if number == 27 then 26 else if (number == 47) || (number == 50) then 45 else if number == 85 then 80 else number)
    else number

-- by record, then number
abbrev pub is_before : ℕ → ℕ → ℕ → ℕ → Bool
is_before rec number other_rec other = nat_lt rec other_rec || ((rec == other_rec) && nat_lt number other)

-- whether the group is the one with this record number and number
abbrev pub is_at : ℕ → ℕ → Group → Bool
is_at rec number g = (g.rec == rec) && (g.number == number)

-- each group is before all later ones, so no two have the same name
abbrev pub IsAscending : Record → Type 0
IsAscending [] = ⊤
IsAscending (g ∷ gs) = AllByRecursion (λ h. is_before g.rec g.number h.rec h.number ≡ true) gs × IsAscending gs

-- the list of the group with this name, empty if there is none
abbrev pub items_at : ℕ → ℕ → Record → List (ℕ × List ℕ)
items_at rec number [] = []
items_at rec number (g ∷ gs) = if is_at rec number g then g.items else items_at rec number gs

-- a DataSet as an item of a group, if it belongs to that
abbrev pub item_in : ℕ → ℕ → DataSet → Option (ℕ × List ℕ)
item_in rec number d = if (d.rec == rec) && (named d.rec d.number == number) then Some (d.number, d.octets) else None

-- the record has the DataSets of the sequence: each group has those that belong to it, in order
pub record Gathers (sequence : List DataSet) (i : Record) : Type 0 where
  pub ascending : IsAscending i
  pub some : AllByRecursion (λ g. 1 ≤ length g.items) i
  pub filtered : (rec number : ℕ) → items_at rec number i ≡ filter_map (item_in rec number) sequence

-- the record with one more DataSet, at its group's end
unfoldable pub put : DataSet → Record → Record
put d [] = record { rec = d.rec; number = named d.rec d.number; items = (d.number, d.octets) ∷ [] } ∷ []
put d (g ∷ gs) =
    if is_at d.rec (named d.rec d.number) g then record {
      rec = g.rec;
      number = g.number;
      items = g.items
          ++ (d.number, d.octets) ∷ [];
    } ∷ gs
    else if is_before d.rec (named d.rec d.number) g.rec g.number then record
    { rec = d.rec; number = named d.rec d.number; items = (d.number, d.octets) ∷ [] } ∷ g ∷ gs
    else g ∷ put d gs

-- the DataSets of a sequence, put one after another
unfoldable pub gather : Record → List DataSet → Record
gather i [] = i
gather i (d ∷ ds) = gather (put d i) ds

-- a DataSet of the group: its number belongs to the group, and it is in the range of its type
pub record IsItem (rec number : ℕ) (x : ℕ × List ℕ) : Type 0 where
  pub byte : x.0 < 256
  pub member : named rec x.0 ≡ number
  pub bytes : AreBytes x.1
  pub bounded : length x.1 ≤ limit

-- a group that a block can have: it has a DataSet, and each is valid
pub record IsGroup (g : Group) : Type 0 where
  pub byte : g.rec < 256
  pub some : 1 ≤ length g.items
  pub items : AllByRecursion (IsItem g.rec g.number) g.items

-- groups in order, each with a DataSet
pub record AreGroups (i : Record) : Type 0 where
  pub ascending : IsAscending i
  pub groups : AllByRecursion IsGroup i

-- a record that a block can have: it has a DataSet
pub record IsRecord (i : Record) : Type 0 where
  pub some : 1 ≤ length i
  pub whole : AreGroups i
