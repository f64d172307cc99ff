-- The reader's entries with a special use.
use Rattle.std.specs.Prelude.{◌≡◌, ◌≤◌, ℕ, ◌+◌, ◌==◌, Bool, if◌then◌else◌, Option, Some, None, List, length, find, MatchOption}
use Rattle.px_bytes.specs.declared.Order.{Order}
use Rattle.px_bytes.specs.Parts.{part}
use Rattle.px_tree.specs.declared.entries.Head.{Head}
use Rattle.px_tree.specs.declared.links.Link.{Link}
use Rattle.px_tree.specs.declared.links.Found.{Found}
use Rattle.px_tree.specs.declared.uses.Uses.{Uses}
use Rattle.px_meaning.specs.Roles.{exif_tag, gps_tag, interop_tag, record_tag, jpeg_offset_tag, jpeg_length_tag, strip_offsets_tag}
use Rattle.px_meaning.specs.Roles.{strip_lengths_tag}
use Rattle.px_meaning.specs.Entry.{Entry, entry}
use Rattle.px_meaning.specs.Directory.{is_pointer}
use Rattle.px_tree.specs.Checks.{place_of}
use Rattle.px_tree.specs.calls.Reading.{Shows, bare}

-- an entry at an offset
abbrev pub found_as : Head → ℕ → Found
found_as h p = record { head = h; place = p }

-- the pointer in an entry
abbrev pub link_as : Found → Link
link_as f = record { at = f.head.offset; place = f.place }

-- an entry has the tag
abbrev pub has_tag : ℕ → Entry → Bool
has_tag t e = e.tag == t

-- f is the first of the entries from offset p on that passes the test
pub record IsFirst (b : List ℕ) (o : Order) (es : List Entry) (p : ℕ) (test : Entry → Bool) (f : Found) : Type 0 where
  pub is : find test es ≡ Some (entry o (part b f.place 12))
  pub place : f.place ≡ place_of test p es
  pub shown : Shows o f.head (entry o (part b f.place 12))
  pub inside : f.place + 12 ≤ length b

-- what was kept is the first entry that passes, or none passes
abbrev pub Sees : List ℕ → Order → List Entry → ℕ → (Entry → Bool) → Option Found → Type 0
Sees b o es p test x = MatchOption x (find test es ≡ None) (IsFirst b o es p test)

-- the entries that were kept for each tag with a special use
pub record AreUses (b : List ℕ) (o : Order) (es : List Entry) (p : ℕ) (u : Uses) : Type 0 where
  pub exif : Sees b o es p (is_pointer exif_tag) u.exif
  pub gps : Sees b o es p (is_pointer gps_tag) u.gps
  pub interop : Sees b o es p (is_pointer interop_tag) u.interop
  pub iptc : Sees b o es p (has_tag record_tag) u.iptc
  pub jpeg_offset : Sees b o es p (has_tag jpeg_offset_tag) u.jpeg_offset
  pub jpeg_length : Sees b o es p (has_tag jpeg_length_tag) u.jpeg_length
  pub strip_offsets : Sees b o es p (has_tag strip_offsets_tag) u.strip_offsets
  pub strip_lengths : Sees b o es p (has_tag strip_lengths_tag) u.strip_lengths

-- nothing was kept yet
pub record NoUses (u : Uses) : Type 0 where
  pub exif : u.exif ≡ None
  pub gps : u.gps ≡ None
  pub interop : u.interop ≡ None
  pub iptc : u.iptc ≡ None
  pub jpeg_offset : u.jpeg_offset ≡ None
  pub jpeg_length : u.jpeg_length ≡ None
  pub strip_offsets : u.strip_offsets ≡ None
  pub strip_lengths : u.strip_lengths ≡ None

-- an entry that passes replaces the one that was kept
abbrev pub kept : (Entry → Bool) → Found → Option Found → Option Found
kept test f x = if test (bare f.head) then Some f else x

-- the entry f replaces the kept entry of each use that it passes
pub record Keeps (old new : Uses) (f : Found) : Type 0 where
  pub exif : new.exif ≡ kept (is_pointer exif_tag) f old.exif
  pub gps : new.gps ≡ kept (is_pointer gps_tag) f old.gps
  pub interop : new.interop ≡ kept (is_pointer interop_tag) f old.interop
  pub iptc : new.iptc ≡ kept (has_tag record_tag) f old.iptc
  pub jpeg_offset : new.jpeg_offset ≡ kept (has_tag jpeg_offset_tag) f old.jpeg_offset
  pub jpeg_length : new.jpeg_length ≡ kept (has_tag jpeg_length_tag) f old.jpeg_length
  pub strip_offsets : new.strip_offsets ≡ kept (has_tag strip_offsets_tag) f old.strip_offsets
  pub strip_lengths : new.strip_lengths ≡ kept (has_tag strip_lengths_tag) f old.strip_lengths
