-- The reader's entries of the thumbnail's bytes.
use Rattle.std.specs.Prelude.{◌≡◌, ◌≤◌, ℕ, ◌+◌, ◌==◌, true, false, Option, Some, None, option_map, unwrap_or, List, [], ◌∷◌, ◌++◌, length}
use Rattle.std.specs.Prelude.{IfSome, ⊤}
use Rattle.std.specs.List.{AllByRecursion}
use Rattle.px_bytes.specs.declared.Order.{Order}
use Rattle.px_bytes.specs.declared.Cause.TheVariants.{ThumbnailPair}
use Rattle.px_bytes.specs.Parts.{limit, part}
use Rattle.px_bytes.specs.Range.{Range, range}
use Rattle.px_bytes.specs.Checks.{Check, check}
use Rattle.px_tree.specs.declared.links.Found.{Found}
use Rattle.px_tree.specs.declared.uses.Uses.{Uses}
use Rattle.px_tree.specs.declared.tables.Directory.{Directory}
use Rattle.px_meaning.specs.declared.Dir.TheVariants.{Thumb}
use Rattle.px_meaning.specs.Entry.{Entry, entry, has_raw, is_short_or_long, IsEntry, fields}
use Rattle.px_meaning.specs.Directory.{entries_at}
use Rattle.px_meaning.specs.Thumbnail.{both, numbers, ranges_of}
use Rattle.px_tree.specs.calls.Reading.{Shows, bare, HasTable}
use Rattle.px_tree.specs.calls.Uses.{Sees, has_tag}
use Rattle.px_tree.specs.calls.Linked.{AreUsesAt}

-- what was kept for a tag is its entry, or it has none
abbrev pub Finds : List ℕ → Order → ℕ → ℕ → Option Found → Type 0
Finds b o a t x = Sees b o (entries_at b o a) (a + 2) (has_tag t) x

-- the entry that was found
abbrev pub entry_here : List ℕ → Order → Found → Entry
entry_here b o f = entry o (part b f.place 12)

-- the offset of an entry that was found; 0 without one
abbrev pub place_in : Option Found → ℕ
place_in x = unwrap_or (option_map (λ f. f.place) x) 0

-- the entry that was found has its value inside the block
pub record HasValue (b : List ℕ) (o : Order) (f : Found) : Type 0 where
  pub bounded : length b ≤ limit
  pub inside : f.place + 12 ≤ length b
  pub shown : Shows o f.head (entry_here b o f)
  pub whole : has_raw b o (entry_here b o f) ≡ true

-- the entry that was found has a list of SHORT or LONG inside the block
pub record HasNumbers (b : List ℕ) (o : Order) (f : Found) : Type 0 where
  pub bounded : length b ≤ limit
  pub inside : f.place + 12 ≤ length b
  pub shown : Shows o f.head (entry_here b o f)
  pub formed : is_short_or_long (bare f.head) ≡ true
  pub whole : has_raw b o (entry_here b o f) ≡ true

-- an entry, if one was found, has a list of SHORT or LONG inside the block
abbrev pub HaveNumbers : List ℕ → Order → Option Found → Type 0
HaveNumbers b o x = IfSome x (HasNumbers b o)

-- ---- the checks of both pairs

-- one is present without the other
abbrev pub pair_check : Option Found → Option Found → List Check
pair_check (Some f) None = check ThumbnailPair f.place false ∷ []
pair_check None (Some f) = check ThumbnailPair f.place false ∷ []
pair_check _ _ = []

-- as many offsets as lengths
abbrev pub count_check : Option Found → Option Found → List Check
count_check (Some f) (Some g) = check ThumbnailPair f.place (f.head.count == g.head.count) ∷ []
count_check _ _ = []

-- the checks of the JPEG's pair, and of the strips' pair
abbrev pub pairs_checks : Uses → List Check
pairs_checks p =
    pair_check p.jpeg_offset p.jpeg_length ++ (pair_check p.strip_offsets p.strip_lengths ++ count_check p.strip_offsets p.strip_lengths)

-- if both entries are there, they have the same count
abbrev pub HaveSameCount : Option Found → Option Found → Type 0
HaveSameCount (Some f) (Some g) = f.head.count ≡ g.head.count
HaveSameCount _ _ = ⊤

-- ---- the ranges

-- the range of the JPEG, if both of its entries are there
abbrev pub jpeg_of : Option Found → Option Found → Option Range
jpeg_of x n = both (λ f g. range f.head.offset g.head.offset) x n

-- the range of each strip, if both of their entries are there
abbrev pub strips_of : List ℕ → Order → Option Found → Option Found → Option (List Range)
strips_of b o x n = both (λ f g. ranges_of (numbers b o (entry_here b o f)) (numbers b o (entry_here b o g))) x n

-- the thumbnail directory that was read: it has a table, its entries are valid, and its fields are theirs
pub record IsReadThumb (b : List ℕ) (o : Order) (t : Directory) : Type 0 where
  pub table : HasTable b o t.at t.count
  pub each : AllByRecursion (IsEntry b o Thumb) (entries_at b o t.at)
  pub uses : AreUsesAt b o t
  pub fields_are : t.fields ≡ fields b o Thumb t.at
