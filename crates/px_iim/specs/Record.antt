-- The record of a block, and its normal form. IIM 4.2, chapter 1: DataSets follow one another.
-- Example: the normal form of the record of 1C 02 78 80 04 00 00 00 03 61 62 63 00 is 1C 02 78 00 03 61 62 63: the length is the
-- shortest, and the zero after the last DataSet isn't kept.
use Rattle.std.specs.Prelude.{◌≡◌, ◌≤◌, ◌+◌, ◌-◌, ◌==◌, ℕ, zero, suc, nat_lt, nat_le, Bool, ◌&&◌, ◌||◌, if◌then◌else◌, Option, Some, None}
use Rattle.std.specs.Prelude.{option_map, List, [], ◌∷◌, ◌++◌, length, drop, slice_index, flat_map}
use Rattle.std.specs.List.{AllByRecursion, list_all}
use Rattle.px_bytes.specs.declared.Order.TheVariants.{Most}
use Rattle.px_bytes.specs.Numbers.{number, spelling}
use Rattle.px_bytes.specs.Parts.{limit, part}
use Rattle.px_iim.specs.DataSet.{DataSet, marker, top_bit, Encodes}
use Rattle.px_iim.specs.Group.{Group, Record, Gathers, gather}

-- ---- the record of a block

-- some DataSets, one after another, then at most three zero bytes; the record has these DataSets
pub record SaysIim (x : List ℕ) (i : Record) : Type 0 where
  pub bounded : length x ≤ limit
  pub sequence : List DataSet
  pub some : 1 ≤ length sequence
  pub encoded : List ℕ
  pub zeros : List ℕ
  pub whole : x ≡ encoded ++ zeros
  pub encodes : Encodes sequence encoded
  pub short : length zeros ≤ 3
  pub blank : AllByRecursion (λ o. o ≡ 0) zeros
  pub gathered : Gathers sequence i

-- ---- the same, computed; below, x are the bytes from an offset on at which a DataSet may begin

-- the first two bytes of the length
abbrev pub form : List ℕ → ℕ
form x = number Most 2 (drop 3 x)

-- how many bytes of length follow these two
abbrev pub extra : List ℕ → ℕ
extra x = if nat_lt (form x) top_bit then 0 else form x - top_bit

-- the length: the number of bytes of data
abbrev pub count : List ℕ → ℕ
count x = if nat_lt (form x) top_bit then form x else number Most (extra x) (drop 5 x)

-- the number of bytes of the whole DataSet
abbrev pub size : List ℕ → ℕ
size x = 5 + extra x + count x

-- x begins with the tag marker
abbrev pub is_marked : List ℕ → Bool
is_marked x = nat_le 1 (length x) && (slice_index x 0 == marker)

-- the length is a standard one, or an extended one of one to four bytes
abbrev pub has_form : List ℕ → Bool
has_form x = nat_lt (form x) top_bit || (nat_le 1 (extra x) && nat_le (extra x) 4)

-- x begins with a whole DataSet: marker, record number, number, length, and as many bytes of data
-- as that says
unfoldable pub is_dataset : List ℕ → Bool
is_dataset x = is_marked x && nat_le 5 (length x) && has_form x && nat_le (5 + extra x) (length x) && nat_le (size x) (length x)

-- the DataSet that x begins with
unfoldable pub dataset : List ℕ → DataSet
dataset x = record { rec = slice_index x 1; number = slice_index x 2; octets = part x (5 + extra x) (count x) }

-- at most three bytes are left, all zero
abbrev pub is_end : List ℕ → Bool
is_end x = nat_le (length x) 3 && list_all (λ o. o == 0) x

-- the DataSets from here on, at least one, at most n
unfoldable pub sequence_of : ℕ → List ℕ → Option (List DataSet)
sequence_of zero x = None
sequence_of (suc n) x =
    if is_dataset x
    then option_map (λ ds. dataset x ∷ ds) (if is_end (drop (size x) x) then Some [] else sequence_of n (drop (size x) x))
    else None

-- the record of a block, if it has one
unfoldable pub iim_of : List ℕ → Option Record
iim_of x = if nat_le (length x) limit then option_map (gather []) (sequence_of (length x) x) else None

-- ---- the normal form

-- the standard length up to 32,767 bytes, otherwise the extended one with four bytes
unfoldable pub normal_count : ℕ → List ℕ
normal_count n = if nat_lt n top_bit then spelling Most 2 n else spelling Most 2 (top_bit + 4) ++ spelling Most 4 n

-- a DataSet of record `rec`, given by its number and its data: marker, both numbers, length, data
unfoldable pub normal_dataset : ℕ → ℕ × List ℕ → List ℕ
normal_dataset rec x = marker ∷ rec ∷ x.0 ∷ (normal_count (length x.1) ++ x.1)

-- the DataSets of a group, one after another
abbrev pub normal_group : Group → List ℕ
normal_group g = flat_map (normal_dataset g.rec) g.items

-- the groups in order, each list in its order, and nothing after them
abbrev pub normal_iim : Record → List ℕ
normal_iim i = flat_map normal_group i
