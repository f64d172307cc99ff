-- The checks of a block, in the order in which they are made: the first that fails is the first fault. The order of the checks is
-- this project's profile; each check is described at the definition that it tests.
use Rattle.std.specs.Prelude.{◌≡◌, ℕ, ◌+◌, ◌*◌, ◌==◌, nat_lt, nat_le, Bool, true, false, not, if◌then◌else◌, ◌&&◌, ◌||◌, Option, Some, None}
use Rattle.std.specs.Prelude.{unwrap_or, is_some, option_to_list, List, [], ◌∷◌, ◌++◌, length, take}
use Rattle.std.specs.List.{list_any}
use Rattle.px_bytes.specs.declared.Order.{Order}
use Rattle.px_bytes.specs.declared.Order.TheVariants.{Least, Most}
use Rattle.px_bytes.specs.declared.Cause.{Cause}
use Rattle.px_bytes.specs.declared.Cause.TheVariants.{TooLong, UnknownKind, HeaderCut, Loop, DirectoryOutside, EmptyDirectory, Overlap}
use Rattle.px_bytes.specs.declared.Cause.TheVariants.{Unsorted, Doubled, UnknownType, MisplacedOffset, PointerForm, ValueOutside}
use Rattle.px_bytes.specs.declared.Cause.TheVariants.{ThumbnailPair, ExtraDirectory, ThumbnailOutside}
use Rattle.px_bytes.specs.Parts.{limit, part}
use Rattle.px_bytes.specs.Range.{Range, range, is_free}
use Rattle.px_bytes.specs.Checks.{Check, check, first_false}
use Rattle.px_field.specs.Forms.{form_of}
use Rattle.px_meaning.specs.declared.Dir.{Dir}
use Rattle.px_meaning.specs.declared.Dir.TheVariants.{Main, Exif, Interop, Gps, Thumb}
use Rattle.px_meaning.specs.Roles.{exif_tag, gps_tag, interop_tag, jpeg_offset_tag, jpeg_length_tag, strip_offsets_tag, strip_lengths_tag}
use Rattle.px_meaning.specs.Roles.{role}
use Rattle.px_meaning.specs.Entry.{Entry, short, table_size, next, table, has_raw, has_form, is_allowed}
use Rattle.px_meaning.specs.Directory.{magic, dirs, entries_at, entry_with, is_pointer, main_at, exif_at, dir_at}
use Rattle.px_meaning.specs.Thumbnail.{are_paired, jpeg_range, strip_ranges}
use Rattle.px_meaning.specs.Footprint.{listed, placed_range, table_range, ranges_at}

-- ---- the header

-- whether two lists have the same bytes
abbrev pub same_bytes : List ℕ → List ℕ → Bool
same_bytes [] [] = true
same_bytes (x ∷ xs) (y ∷ ys) = (x == y) && same_bytes xs ys
same_bytes _ _ = false

-- the byte order in the first four bytes
abbrev pub order_of : List ℕ → Option Order
order_of b = if same_bytes (take 4 b) (magic Least) then Some Least else if same_bytes (take 4 b) (magic Most) then Some Most else None

-- the first bytes, up to four, begin a header
abbrev pub begins_header : List ℕ → Bool
begins_header b =
    nat_lt 0 (length b) && (same_bytes (take 4 b) (take (length b) (magic Least)) || same_bytes (take 4 b) (take (length b) (magic Most)))

-- the checks of the first eight bytes: TIFF 6.0 section 2, "Image File Header"
abbrev pub header_checks : List ℕ → List Check
header_checks b =
    check TooLong limit (nat_le (length b) limit)
    ∷ check UnknownKind 0 (begins_header b)
    ∷ check HeaderCut (length b) (nat_le 8 (length b))
    ∷ []

-- ---- one entry

-- a tag against the one before
abbrev pub is_not_below : Option ℕ → ℕ → Bool
is_not_below None t = true
is_not_below (Some u) t = nat_le u t

-- whether a tag differs from the one before, if there is one
abbrev pub differs : Option ℕ → ℕ → Bool
differs None t = true
differs (Some u) t = not (u == t)

-- whether a value shares no byte with what is claimed; one without an offset shares none
abbrev pub is_free_value : List Range → Option Range → Bool
is_free_value claimed None = true
is_free_value claimed (Some r) = is_free claimed r

-- the checks of the entry at offset p, after one with tag u, before those of its value
abbrev pub shape_checks : Dir → ℕ → Option ℕ → Entry → List Check
shape_checks d p u e =
    check Unsorted p (is_not_below u e.tag)
    ∷ check Doubled p (differs u e.tag)
    ∷ check UnknownType p (is_some (form_of e.code))
    ∷ check MisplacedOffset p (is_allowed (role d e.tag))
    ∷ check PointerForm p (has_form (role d e.tag) e)
    ∷ []

-- the checks of its value, if `claimed` is claimed
abbrev pub value_checks : List ℕ → Order → List Range → ℕ → Entry → List Check
value_checks b o claimed p e =
    check ValueOutside p (has_raw b o e)
    ∷ check Overlap p (is_free_value claimed (placed_range o e))
    ∷ []

-- all checks of the entry at offset p, after one with tag u
unfoldable pub entry_checks : List ℕ → Order → Dir → List Range → ℕ → Option ℕ → Entry → List Check
entry_checks b o d claimed p u e = shape_checks d p u e ++ value_checks b o claimed p e

-- the checks of all entries; each passed value is claimed for the next ones
abbrev pub entries_checks : List ℕ → Order → Dir → List Range → ℕ → Option ℕ → List Entry → List Check
entries_checks b o d claimed p u [] = []
entries_checks b o d claimed p u (e ∷ es) =
    entry_checks b o d claimed p u e ++ entries_checks b o d (option_to_list (placed_range o e) ++ claimed) (p + 12) (Some e.tag) es

-- ---- one directory

-- a directory at a was read before
abbrev pub is_earlier_at : List ℕ → ℕ → Bool
is_earlier_at earlier a = list_any (λ x. x == a) earlier

-- the checks of the table at a with a pointer at p, if the tables at the earlier offsets were read
abbrev pub opening_checks : List ℕ → Order → List ℕ → List Range → ℕ → ℕ → List Check
opening_checks b o earlier claimed p a =
    check Loop p (not (is_earlier_at earlier a))
    ∷ check DirectoryOutside p (nat_le (a + 2) (length b))
    ∷ check EmptyDirectory a (nat_le 1 (short o (part b a 2)))
    ∷ check DirectoryOutside p (nat_le (a + table_size (short o (part b a 2))) (length b))
    ∷ check Overlap p (is_free claimed (table_range b o a))
    ∷ []

-- the checks of the directory d at a, with a pointer at p: of its table, and of its entries, the
-- first of which is at a + 2
unfoldable pub dir_checks : List ℕ → Order → List ℕ → List Range → ℕ → Dir → ℕ → List Check
dir_checks b o earlier claimed p d a =
    opening_checks b o earlier claimed p a ++ entries_checks b o d (table_range b o a ∷ claimed) (a + 2) None (entries_at b o a)

-- the offset of the first entry that passes a test, if the first of all is at p
abbrev pub place_of : (Entry → Bool) → ℕ → List Entry → ℕ
place_of test p [] = p
place_of test p (e ∷ es) = if test e then p else place_of test (p + 12) es

-- the offset of the entry in the directory at a that is a pointer with tag t
abbrev pub pointer_place : List ℕ → Order → ℕ → ℕ → ℕ
pointer_place b o a t = place_of (is_pointer t) (a + 2) (entries_at b o a)

-- the offset of the pointer to a directory: the header's offset, a pointer entry, or the main directory's next offset
unfoldable pub named_at : List ℕ → Order → Dir → ℕ
named_at b o Main = 4
named_at b o Exif = pointer_place b o (main_at b o) exif_tag
named_at b o Interop = pointer_place b o (unwrap_or (exif_at b o) 0) interop_tag
named_at b o Gps = pointer_place b o (main_at b o) gps_tag
named_at b o Thumb = main_at b o + 2 + 12 * length (entries_at b o (main_at b o))

-- the checks of a directory, if a pointer leads to it
abbrev pub checks_at : List ℕ → Order → List ℕ → List Range → Dir → Option ℕ → List Check
checks_at b o earlier claimed d None = []
checks_at b o earlier claimed d (Some a) = dir_checks b o earlier claimed (named_at b o d) d a

-- the checks of the directories in order; the offsets of passed ones are earlier, and their ranges are claimed
abbrev pub dirs_checks : List ℕ → Order → List ℕ → List Range → List Dir → List Check
dirs_checks b o earlier claimed [] = []
dirs_checks b o earlier claimed (d ∷ ds) =
    checks_at b o earlier claimed d (dir_at b o d)
    ++ dirs_checks b o (option_to_list (dir_at b o d) ++ earlier) (ranges_at b o d ++ claimed) ds

-- the ranges that are claimed after them
abbrev pub dirs_claimed : List ℕ → Order → List Range → List Dir → List Range
dirs_claimed b o claimed [] = claimed
dirs_claimed b o claimed (d ∷ ds) = dirs_claimed b o (ranges_at b o d ++ claimed) ds

-- ---- the thumbnail

-- the offset of the entry with a tag
abbrev pub place_with : ℕ → ℕ → List Entry → ℕ
place_with t p es = place_of (λ e. e.tag == t) p es

-- the offset of the entry of a pair that is present
abbrev pub pair_place : ℕ → ℕ → ℕ → List Entry → ℕ
pair_place t u p es = if is_some (entry_with t es) then place_with t p es else place_with u p es

-- whether the offsets and the lengths are as many; true if one is missing, which another check
-- finds
abbrev pub same_count : Option Entry → Option Entry → Bool
same_count (Some x) (Some y) = x.count == y.count
same_count _ _ = true

-- the checks of both pairs, if the first entry is at p
abbrev pub pair_checks : ℕ → List Entry → List Check
pair_checks p es =
    check ThumbnailPair (pair_place jpeg_offset_tag jpeg_length_tag p es) (are_paired (entry_with jpeg_offset_tag es)
    (entry_with jpeg_length_tag es))
    ∷ check ThumbnailPair (pair_place strip_offsets_tag strip_lengths_tag p es)
    (are_paired (entry_with strip_offsets_tag es) (entry_with strip_lengths_tag es))
    ∷ check ThumbnailPair (place_with strip_offsets_tag p es) (same_count (entry_with strip_offsets_tag es)
    (entry_with strip_lengths_tag es))
    ∷ []

-- no directory follows
abbrev pub end_checks : List ℕ → Order → ℕ → List Check
end_checks b o a = check ExtraDirectory (a + 2 + 12 * length (entries_at b o a)) (next o (table b o a) == 0) ∷ []

-- the checks of ranges: each is inside the block and shares no byte with those that are claimed
abbrev pub range_checks : List ℕ → ℕ → List Range → List Range → List Check
range_checks b p claimed [] = []
range_checks b p claimed (r ∷ rs) =
    check ThumbnailOutside p (nat_le (r.start + r.size) (length b)) ∷ check Overlap p (is_free claimed r)
    ∷ range_checks b p (r ∷ claimed) rs

-- the JPEG, then each strip
abbrev pub part_checks : List ℕ → Order → List Range → ℕ → List Entry → List Check
part_checks b o claimed p es =
    range_checks b (place_with jpeg_offset_tag p es) claimed (option_to_list (jpeg_range o es))
    ++ range_checks b (place_with strip_offsets_tag p es) (option_to_list (jpeg_range o es) ++ claimed) (listed (strip_ranges b o es))

-- the checks of the thumbnail directory at a, after its entries
unfoldable pub thumb_checks : List ℕ → Order → List Range → ℕ → List Check
thumb_checks b o claimed a =
    pair_checks (a + 2) (entries_at b o a) ++ end_checks b o a ++ part_checks b o claimed (a + 2) (entries_at b o a)

-- the checks of the thumbnail directory after its entries; none if the block lacks it
abbrev pub thumb_checks_at : List ℕ → Order → List Range → Option ℕ → List Check
thumb_checks_at b o claimed None = []
thumb_checks_at b o claimed (Some a) = thumb_checks b o claimed a

-- ---- all checks

-- the checks after those of the header, whose eight bytes are claimed: of all directories, and of
-- the thumbnail
unfoldable pub tree_checks : List ℕ → Order → List Check
tree_checks b o =
    dirs_checks b o [] (range 0 8 ∷ []) dirs ++ thumb_checks_at b o (dirs_claimed b o (range 0 8 ∷ []) dirs) (dir_at b o Thumb)

-- the checks after those of the header, in its byte order; none if it has no byte order
abbrev pub checks_in : List ℕ → Option Order → List Check
checks_in b None = []
checks_in b (Some o) = tree_checks b o

-- all checks of a block
unfoldable pub checks : List ℕ → List Check
checks b = header_checks b ++ checks_in b (order_of b)

-- the first fault of a block: the cause and byte offset of its first check that fails
abbrev pub FirstExifFault : List ℕ → Cause → ℕ → Type 0
FirstExifFault b c p = first_false (checks b) ≡ Some (c, p)
