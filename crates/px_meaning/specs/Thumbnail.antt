-- The thumbnail's bytes: a JPEG, or strips. CIPA DC-008 4.5.5, and its tags relating to recording offset; TIFF 6.0 section 8,
-- "StripOffsets" and "StripByteCounts".
-- Example: JPEGInterchangeFormat 200 and JPEGInterchangeFormatLength 50 are a JPEG, the bytes 200 to 249. StripOffsets 300, 340 and
-- StripByteCounts 40, 12 are two strips, the bytes 300 to 339 and 340 to 351.
use Rattle.std.specs.Prelude.{◌≡◌, ℕ, ◌+◌, ◌≤◌, Bool, true, false, Option, Some, None, option_map, List, [], ◌∷◌, length, map, IfSome}
use Rattle.std.specs.List.{AllByRecursion}
use Rattle.px_bytes.specs.declared.Order.{Order}
use Rattle.px_bytes.specs.Parts.{part}
use Rattle.px_bytes.specs.Range.{Range, range}
use Rattle.px_field.specs.declared.Form.{Form}
use Rattle.px_field.specs.declared.Element.{Element}
use Rattle.px_field.specs.declared.Element.TheVariants.{Short, Long}
use Rattle.px_field.specs.Forms.{form_of}
use Rattle.px_meaning.specs.Roles.{jpeg_offset_tag, jpeg_length_tag, strip_offsets_tag, strip_lengths_tag}
use Rattle.px_meaning.specs.Entry.{Entry, table, next, offset, entry_elements}
use Rattle.px_meaning.specs.Directory.{entries_at, entry_with}

-- the part that two entries describe together
abbrev pub both : {X Y Z : Type 0} → (X → Y → Z) → Option X → Option Y → Option Z
both f (Some x) (Some y) = Some (f x y)
both f _ _ = None

-- both entries of a pair are present, or neither
abbrev pub are_paired : {X Y : Type 0} → Option X → Option Y → Bool
are_paired (Some x) (Some y) = true
are_paired None None = true
are_paired _ _ = false

-- the number of a SHORT or a LONG: the lists of the thumbnail have no others
abbrev pub whole_number : Element → ℕ
whole_number (Short n) = n
whole_number (Long n) = n
whole_number _ = 0

-- the elements as numbers; none of an unknown type
abbrev pub numbers_in : List ℕ → Order → Entry → Option Form → List ℕ
numbers_in b o e None = []
numbers_in b o e (Some f) = map whole_number (entry_elements b o e f)

-- the numbers of an entry, a list of SHORT or LONG
unfoldable pub numbers : List ℕ → Order → Entry → List ℕ
numbers b o e = numbers_in b o e (form_of e.code)

-- the bytes of the block in a range
abbrev pub bytes_of : List ℕ → Range → List ℕ
bytes_of b r = part b r.start r.size

-- the range ends within the block
abbrev pub IsInside : List ℕ → Range → Type 0
IsInside b r = r.start + r.size ≤ length b

-- the JPEG, by its offset and its length
unfoldable pub jpeg_range : Order → List Entry → Option Range
jpeg_range o es = both (λ x n. range (offset o x) (offset o n)) (entry_with jpeg_offset_tag es) (entry_with jpeg_length_tag es)

-- one range for each pair of numbers
abbrev pub ranges_of : List ℕ → List ℕ → List Range
ranges_of [] ns = []
ranges_of (x ∷ xs) [] = []
ranges_of (x ∷ xs) (n ∷ ns) = range x n ∷ ranges_of xs ns

-- the strips, by the list of their offsets and that of their lengths
unfoldable pub strip_ranges : List ℕ → Order → List Entry → Option (List Range)
strip_ranges b o es =
    both (λ x n. ranges_of (numbers b o x) (numbers b o n)) (entry_with strip_offsets_tag es) (entry_with strip_lengths_tag es)

-- the thumbnail directory at a is in order: each pair is whole, its bytes lie within the block, and no directory follows
pub record IsThumbnail (b : List ℕ) (o : Order) (a : ℕ) : Type 0 where
  pub jpeg_pair : are_paired (entry_with jpeg_offset_tag (entries_at b o a)) (entry_with jpeg_length_tag (entries_at b o a)) ≡ true
  pub jpeg_inside : IfSome (jpeg_range o (entries_at b o a)) (IsInside b)
  pub strip_pair : are_paired (entry_with strip_offsets_tag (entries_at b o a)) (entry_with strip_lengths_tag (entries_at b o a)) ≡ true
  pub strip_counts : option_map (λ e. e.count) (entry_with strip_offsets_tag (entries_at b o a)) ≡ option_map (λ e. e.count)
      (entry_with strip_lengths_tag (entries_at b o a))
  pub strips_inside : IfSome (strip_ranges b o (entries_at b o a)) (AllByRecursion (IsInside b))
  pub ends : next o (table b o a) ≡ 0
