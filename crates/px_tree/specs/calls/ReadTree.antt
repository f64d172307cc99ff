-- The directories that were read.
use Rattle.std.specs.Prelude.{◌≡◌, ℕ, ◌+◌, Bool, true, List, [], ◌∷◌, ◌++◌, None, option_map}
use Rattle.px_bytes.specs.declared.Order.{Order}
use Rattle.px_bytes.specs.Range.{Range, range}
use Rattle.px_bytes.specs.Checks.{Check}
use Rattle.px_meaning.specs.declared.Dir.{Dir}
use Rattle.px_meaning.specs.declared.Dir.TheVariants.{Main, Exif, Interop, Gps, Thumb}
use Rattle.px_tree.specs.declared.tables.Directory.{Directory}
use Rattle.px_tree.specs.declared.tree.Directories.{Directories}
use Rattle.px_meaning.specs.Roles.{record_tag}
use Rattle.px_meaning.specs.Entry.{fields}
use Rattle.px_meaning.specs.Directory.{main_at, dir_at, fields_at, entries_at}
use Rattle.px_meaning.specs.Footprint.{dir_ranges}
use Rattle.px_tree.specs.Checks.{dir_checks}
use Rattle.px_tree.specs.calls.Reading.{HasTable}
use Rattle.px_tree.specs.calls.Uses.{Sees, has_tag}
use Rattle.px_tree.specs.calls.Linked.{AreUsesAt, IsRead}

-- ---- the main directory, whose pointer is at 4

-- the checks of the main directory, if the header is claimed
abbrev pub main_checks : List ℕ → Order → List Check
main_checks b o = dir_checks b o [] (range 0 8 ∷ []) 4 Main (main_at b o)

-- the ranges that are claimed after the main directory
abbrev pub main_claimed : List ℕ → Order → List Range
main_claimed b o = dir_ranges b o (main_at b o) ++ range 0 8 ∷ []

-- the main directory was read: it has a table, its entries with a special use were kept, and so
-- were its fields, if fields are kept
pub record IsReadMain (b : List ℕ) (o : Order) (keeps : Bool) (t : Directory) : Type 0 where
  pub offset_at : t.at ≡ main_at b o
  pub table : HasTable b o t.at t.count
  pub uses : AreUsesAt b o t
  pub fields_are : keeps ≡ true → t.fields ≡ fields b o Main (main_at b o)

-- the block has no other: none of its pointers leads to one
pub record IsAlone (b : List ℕ) (o : Order) : Type 0 where
  pub exif : None ≡ dir_at b o Exif
  pub gps : None ≡ dir_at b o Gps
  pub thumb : None ≡ dir_at b o Thumb

-- ---- all directories

-- the directories after it
abbrev pub others : List Dir
others = Exif ∷ Interop ∷ Gps ∷ Thumb ∷ []

-- each directory is seen as its fields, if fields are kept; those of which more is read are at their offsets
pub record SeenTree (b : List ℕ) (o : Order) (keeps : Bool) (t : Directories) : Type 0 where
  pub main : keeps ≡ true → t.main.fields ≡ fields b o Main (main_at b o)
  pub exif : keeps ≡ true → option_map (λ t. t.fields) t.exif ≡ fields_at b o Exif
  pub interop : keeps ≡ true → option_map (λ t. t.fields) t.interop ≡ fields_at b o Interop
  pub gps : keeps ≡ true → option_map (λ t. t.fields) t.gps ≡ fields_at b o Gps
  pub thumb : option_map (λ t. t.fields) t.thumb ≡ fields_at b o Thumb
  pub main_placed : t.main.at ≡ main_at b o
  pub main_found : Sees b o (entries_at b o t.main.at) (t.main.at + 2) (has_tag record_tag) t.main.iptc
  pub thumb_read : IsRead b o Thumb t.thumb
