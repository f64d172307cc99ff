-- Entries that are inserted into a list of entries, each with its index.
use Rattle.std.specs.Prelude.{◌≡◌, ℕ, ◌<◌, ◌≤◌, ◌^◌, Option, Some, None, ⊤, List, length, slice_get}
use Rattle.px_meaning.specs.Writable.{Item, put, field_items}
use Rattle.px_layout.specs.calls.Items.{item_of, CountsFit, rank}
use Rattle.px_layout.specs.declared.entries.Extra.{Extra}
use Rattle.px_layout.specs.declared.entries.Step.{Step}
use Rattle.px_layout.specs.declared.entries.Step.TheVariants.{Here, Under}
use Rattle.px_layout.specs.declared.entries.Entries.TheInside.{Inside}

-- the list with the entry, if there is one
abbrev pub with_extra : Option Extra → List (ℕ × Item) → List (ℕ × Item)
with_extra None xs = xs
with_extra (Some x) xs = put x.tag (item_of x.item) xs

-- the entry is counted, and its index is that of the first entry of a greater tag
abbrev pub IsAtRank : Option Extra → List (ℕ × Item) → Type 0
IsAtRank None xs = ⊤
IsAtRank (Some x) xs = (x.place ≡ rank x.tag xs) × CountsFit (item_of x.item)

-- the element of the list ys at an index: an entry, or an element of the list without it
abbrev pub FindsEntryAt : Step → List (ℕ × Item) → List (ℕ × Item) → ℕ → Type 0
FindsEntryAt (Here t x) ys xs i = (slice_get ys i ≡ Some (t, item_of x)) × CountsFit (item_of x)
FindsEntryAt (Under j) ys xs i = (slice_get ys i ≡ slice_get xs j) × (j < length xs)

-- the element of the list with the entry: the entry, or an element of the list without it
abbrev pub IsEntryAt : Step → Option Extra → List (ℕ × Item) → ℕ → Type 0
IsEntryAt p e xs i = FindsEntryAt p (with_extra e xs) xs i

-- the entries before the second further one is inserted: the fields and the first
abbrev pub under_second : Inside → List (ℕ × Item)
under_second e = with_extra e.first (field_items e.fields.now)

-- the entries before the third further one is inserted
abbrev pub under_third : Inside → List (ℕ × Item)
under_third e = with_extra e.second (under_second e)

-- the entries before the fourth further one is inserted
abbrev pub under_fourth : Inside → List (ℕ × Item)
under_fourth e = with_extra e.third (under_third e)

-- the entries: the fields, with each further entry put between
abbrev pub entries_of : Inside → List (ℕ × Item)
entries_of e = with_extra e.fourth (under_fourth e)

-- the entry, if there is one, is at index n or after it
abbrev pub NoneBefore : ℕ → Option Extra → Type 0
NoneBefore n None = ⊤
NoneBefore n (Some x) = n ≤ x.place

-- each further entry is at its index
pub record AreLayers (e : Inside) : Type 0 where
  pub few : length e.fields.now < 2 ^ 16
  pub first : IsAtRank e.first (field_items e.fields.now)
  pub second : IsAtRank e.second (under_second e)
  pub third : IsAtRank e.third (under_third e)
  pub fourth : IsAtRank e.fourth (under_fourth e)
  pub clear_first : NoneBefore e.clear e.first
  pub clear_second : NoneBefore e.clear e.second
  pub clear_third : NoneBefore e.clear e.third
  pub clear_fourth : NoneBefore e.clear e.fourth
