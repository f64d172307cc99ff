-- DataSets and their encodings. IIM 4.2, chapter 1: the tag (marker, record number, DataSet number and length), standard and
-- extended, and the data.
-- Example: 1C 02 78 00 03 61 62 63 is the DataSet 2:120 with the data `abc`. 1C 02 78 80 04 00 00 00 03 61 62 63 is it too, with an
-- extended length: 80 04 says that four bytes of length follow.
use Rattle.std.specs.Prelude.{◌≡◌, ◌⊎◌, ◌<◌, ◌≤◌, ◌+◌, ℕ, List, [], ◌∷◌, ◌++◌, length, drop}
use Rattle.px_bytes.specs.declared.Order.TheVariants.{Most}
use Rattle.px_bytes.specs.Numbers.{number}

-- a DataSet: its record number, its number and its data
pub record DataSet : Type 0 where
  pub rec : ℕ
  pub number : ℕ
  pub octets : List ℕ

-- the tag marker, 1C, with which each DataSet begins
abbrev pub marker : ℕ
marker = 28

-- the top bit of the two bytes of a length; if it is set, they are the number of bytes of length that follow
abbrev pub top_bit : ℕ
top_bit = 32768

-- a standard length of n: two bytes, most significant first, with top bit 0
abbrev pub IsStandardCount : ℕ → List ℕ → Type 0
IsStandardCount n count = (length count ≡ 2) × (number Most 2 count ≡ n) × (n < top_bit)

-- an extended length of n: two bytes with top bit 1 whose other bits are k, then k bytes, most significant first; k is from 1 to
-- 4 here
abbrev pub IsExtendedCount : ℕ → List ℕ → Type 0
IsExtendedCount n count =
    (k : ℕ) × (1 ≤ k) × (k ≤ 4) × (length count ≡ 2 + k) × (number Most 2 count ≡ top_bit + k) × (number Most k (drop 2 count) ≡ n)

-- x is an encoding of the DataSet
abbrev pub IsEncoding : DataSet → List ℕ → Type 0
IsEncoding d x =
    (count : List ℕ) × (x ≡ marker ∷ d.rec ∷ d.number ∷ (count ++ d.octets)) × (IsStandardCount (length d.octets) count ⊎ IsExtendedCount
    (length d.octets) count)

-- x is an encoding of each DataSet, one after another
abbrev pub Encodes : List DataSet → List ℕ → Type 0
Encodes [] x = x ≡ []
Encodes (d ∷ ds) x = (a : List ℕ) × (b : List ℕ) × (x ≡ a ++ b) × IsEncoding d a × Encodes ds b
