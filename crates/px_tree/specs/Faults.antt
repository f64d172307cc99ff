-- The faults of a block, by cause: what is wrong, and at which offset. A fault depends only on the block and not on the order of
-- checks; of several faults, the list of checks selects the first. TIFF 6.0 section 2 and section 7, "No Duplicate Pointers";
-- CIPA DC-008 4.5.5 and 4.6.3.
use Rattle.std.specs.Prelude.{◌≡◌, ℕ, ◌+◌, ◌*◌, ◌<◌, ◌≤◌, ◌⊎◌, false, Some, None, option_map, option_to_list, List, [], ◌∷◌, ◌++◌, length}
use Rattle.std.specs.Prelude.{map, take, slice_get, flat_map, Contains}
use Rattle.std.specs.List.{cons_option}
use Rattle.px_bytes.specs.declared.Order.{Order}
use Rattle.px_bytes.specs.declared.Cause.{Cause}
use Rattle.px_bytes.specs.declared.Cause.TheVariants.{TooLong, UnknownKind, HeaderCut, Loop, DirectoryOutside, EmptyDirectory, Overlap}
use Rattle.px_bytes.specs.declared.Cause.TheVariants.{Unsorted, Doubled, UnknownType, MisplacedOffset, PointerForm, ValueOutside}
use Rattle.px_bytes.specs.declared.Cause.TheVariants.{ThumbnailPair, ExtraDirectory, ThumbnailOutside}
use Rattle.px_bytes.specs.Parts.{limit, part}
use Rattle.px_bytes.specs.Range.{Range, range, IsIn}
use Rattle.px_field.specs.Forms.{form_of}
use Rattle.px_meaning.specs.declared.Dir.{Dir}
use Rattle.px_meaning.specs.declared.Dir.TheVariants.{Thumb}
use Rattle.px_meaning.specs.declared.Role.TheVariants.{Forbidden}
use Rattle.px_meaning.specs.Roles.{dir_number, jpeg_offset_tag, jpeg_length_tag, strip_offsets_tag, strip_lengths_tag, at_tag, role}
use Rattle.px_meaning.specs.Entry.{Entry, short, table_size, next, table, offset, has_raw, has_form, IsEntry}
use Rattle.px_meaning.specs.Directory.{magic, dirs, entries_at, entry_with, dir_at}
use Rattle.px_meaning.specs.Thumbnail.{numbers, IsInside, jpeg_range, ranges_of, strip_ranges}
use Rattle.px_meaning.specs.Footprint.{listed, placed_range, table_range}
use Rattle.px_tree.specs.Checks.{named_at, place_with}

-- ---- the parts that are reached

-- x is the element i of the list
abbrev pub At : {X : Type 0} → List X → ℕ → X → Type 0
At xs i x = slice_get xs i ≡ Some x

-- the block has a header of byte order o
abbrev pub Begins : List ℕ → Order → Type 0
Begins b o = (8 ≤ length b) × (take 4 b ≡ magic o)

-- the directory d has a pointer to a
abbrev pub Reached : List ℕ → Order → Dir → ℕ → Type 0
Reached b o d a = Begins b o × (dir_at b o d ≡ Some a)

-- entry i of the directory d is e, at offset p; a directory has entries if its table is in the block
abbrev pub EntryAt : List ℕ → Order → Dir → ℕ → ℕ → Entry → Type 0
EntryAt b o d i p e = (a : ℕ) × Reached b o d a × At (entries_at b o a) i e × (p ≡ a + 2 + 12 * i)

-- ---- the ranges, each with the offset of the entry or pointer that claims it, in the order of the checks

-- the values of entries that have an offset; the first entry is at p
abbrev pub value_owners : Order → ℕ → List Entry → List (ℕ × Range)
value_owners o p [] = []
value_owners o p (e ∷ es) = cons_option (option_map (λ r. (p, r)) (placed_range o e)) (value_owners o (p + 12) es)

-- the table of the directory d at a, and its values that have an offset
unfoldable pub dir_owners : List ℕ → Order → Dir → ℕ → List (ℕ × Range)
dir_owners b o d a = (named_at b o d, table_range b o a) ∷ value_owners o (a + 2) (entries_at b o a)

-- the table and the values of the directory d, each with its owner; none if the block lacks it
abbrev pub owners_at : List ℕ → Order → Dir → List (ℕ × Range)
owners_at b o d = listed (option_map (dir_owners b o d) (dir_at b o d))

-- the JPEG, with its offset's entry, and each strip, with the entry of the list of offsets
unfoldable pub thumb_owners : List ℕ → Order → ℕ → List (ℕ × Range)
thumb_owners b o a =
    map (λ r. (place_with jpeg_offset_tag (a + 2) (entries_at b o a), r)) (option_to_list (jpeg_range o (entries_at b o a)))
    ++ map (λ r. (place_with strip_offsets_tag (a + 2) (entries_at b o a), r)) (listed (strip_ranges b o (entries_at b o a)))

-- the footprint, with the offset of each owner
unfoldable pub owners : List ℕ → Order → List (ℕ × Range)
owners b o = (0, range 0 8) ∷ flat_map (owners_at b o) dirs ++ listed (option_map (thumb_owners b o) (dir_at b o Thumb))

-- ---- the thumbnail's parts

-- the tags of a pair, each with the other
abbrev pub partners : List (ℕ × ℕ)
partners =
    (jpeg_offset_tag, jpeg_length_tag) ∷ (jpeg_length_tag, jpeg_offset_tag)
    ∷ (strip_offsets_tag, strip_lengths_tag) ∷ (strip_lengths_tag, strip_offsets_tag) ∷ []

-- one of a pair without the other
abbrev pub IsAlone : Entry → List Entry → Type 0
IsAlone e es = (u : ℕ) × (at_tag e.tag partners ≡ Some u) × (entry_with u es ≡ None)

-- the counts of offsets and lengths differ
abbrev pub IsUneven : Entry → List Entry → Type 0
IsUneven e es = (f : Entry) × (e.tag ≡ strip_offsets_tag) × (entry_with strip_lengths_tag es ≡ Some f) × (e.count ≡ f.count → ⊥)

-- the offsets x and the lengths n are those of the JPEG, and r is its range; or those of the strips, and r is one of theirs
abbrev pub Names : List ℕ → Order → Entry → Entry → Range → Type 0
Names b o x n r =
    ((x.tag ≡ jpeg_offset_tag) × (n.tag ≡ jpeg_length_tag) × (r ≡ range (offset o x) (offset o n)))
    ⊎ ((x.tag ≡ strip_offsets_tag) × (n.tag ≡ strip_lengths_tag) × Contains (ranges_of (numbers b o x) (numbers b o n)) r)

-- the JPEG or a strip has the range r, and the entry at p has its offset; both entries are valid
abbrev pub PartAt : List ℕ → Order → ℕ → Range → Type 0
PartAt b o p r =
    (i j q : ℕ) × (x n : Entry) × EntryAt b o Thumb i p x × EntryAt b o Thumb j q n × IsEntry b o Thumb x × IsEntry b o Thumb n × Names b o
    x n r

-- ---- the fault

-- the block b has a fault of this cause at the offset p
abbrev pub ExifFault : List ℕ → Cause → ℕ → Type 0
-- the block is longer than the limit
ExifFault b TooLong p = (p ≡ limit) × (limit < length b)
-- the first bytes of the block, up to four, begin no header
ExifFault b UnknownKind p = (p ≡ 0) × ((length b ≡ 0) ⊎ ((o : Order) → take 4 b ≡ take (length b) (magic o) → ⊥))
ExifFault b HeaderCut p = (p ≡ length b) × (length b < 8)
-- an earlier directory is at the same offset
ExifFault b Loop p =
    (o : Order) × (d e : Dir) × (a : ℕ) × Reached b o d a × Reached b o e a × (dir_number e < dir_number d) × (p ≡ named_at b o d)
-- the table of a directory, with its number of entries, passes the end of the block
ExifFault b DirectoryOutside p =
    (o : Order) × (d : Dir) × (a : ℕ) × Reached b o d a × (p ≡ named_at b o d) × (length b < a + table_size (short o (part b a 2)))
ExifFault b EmptyDirectory p = (o : Order) × (d : Dir) × Reached b o d p × (p + 2 ≤ length b) × (short o (part b p 2) ≡ 0)
-- two ranges share a byte; the offset is that of the owner whose check comes later
ExifFault b Overlap p =
    (o : Order) × (i j q : ℕ) × (r s : Range) × (x : ℕ) × Begins b o × (i < j) × At (owners b o) i (q, r) × At (owners b o) j
    (p, s) × IsInside b r × IsInside b s × IsIn x r × IsIn x s
-- a tag is less than the one before, or equal to it
ExifFault b Unsorted p = (o : Order) × (d : Dir) × (i q : ℕ) × (e f : Entry) × EntryAt b o d i q e × EntryAt b o d (i + 1) p f
    × (f.tag < e.tag)
ExifFault b Doubled p = (o : Order) × (d : Dir) × (i q : ℕ) × (e f : Entry) × EntryAt b o d i q e × EntryAt b o d (i + 1) p f
    × (f.tag ≡ e.tag)
ExifFault b UnknownType p = (o : Order) × (d : Dir) × (i : ℕ) × (e : Entry) × EntryAt b o d i p e × (form_of e.code ≡ None)
ExifFault b MisplacedOffset p = (o : Order) × (d : Dir) × (i : ℕ) × (e : Entry) × EntryAt b o d i p e × (role d e.tag ≡ Forbidden)
ExifFault b PointerForm p = (o : Order) × (d : Dir) × (i : ℕ) × (e : Entry) × EntryAt b o d i p e × (has_form (role d e.tag) e ≡ false)
ExifFault b ValueOutside p = (o : Order) × (d : Dir) × (i : ℕ) × (e : Entry) × EntryAt b o d i p e × (has_raw b o e ≡ false)
ExifFault b ThumbnailPair p =
    (o : Order) × (a i : ℕ) × (e : Entry) × Reached b o Thumb a × EntryAt b o Thumb i p
    e × (IsAlone e (entries_at b o a) ⊎ IsUneven e (entries_at b o a))
ExifFault b ExtraDirectory p =
    (o : Order) × (a : ℕ) × Reached b o Thumb a × (p ≡ a + 2 + 12 * length (entries_at b o a)) × (next o (table b o a) ≡ 0 → ⊥)
ExifFault b ThumbnailOutside p = (o : Order) × (r : Range) × PartAt b o p r × (length b < r.start + r.size)
-- the other three belong to IIM blocks
ExifFault b _ p = ⊥
