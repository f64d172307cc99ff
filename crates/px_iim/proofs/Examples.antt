-- Worked examples, computed against the definitions.
use Rattle.std.proofs.Common.{◌≡◌, ℕ, Option, Some, None, List, [], ◌∷◌, ◌++◌, refl}
use Rattle.px_bytes.specs.declared.Cause.{Cause}
use Rattle.px_bytes.specs.declared.Cause.TheVariants.{NoMarker, LengthForm, DataSetCut}
use Rattle.px_bytes.specs.Checks.{first_false}
use Rattle.px_iim.specs.Group.{Record, named, put, gather}
use Rattle.px_iim.specs.Record.{is_dataset, dataset, sequence_of, iim_of, normal_count, normal_dataset, normal_iim}
use Rattle.px_iim.specs.Check.{checks_from, iim_checks}

-- all definitions at once, for what is computed
unfoldable opened : ℕ
unfolding named put gather is_dataset dataset sequence_of iim_of normal_count normal_dataset checks_from iim_checks
opened = 0

-- two keywords of one octet, 'a' and 'b', and a caption, 'c'
keyword : ℕ → List ℕ
keyword o = 0x1C ∷ 2 ∷ 25 ∷ 0 ∷ 1 ∷ o ∷ []

caption : List ℕ
caption = 0x1C ∷ 2 ∷ 0x78 ∷ 0 ∷ 1 ∷ 99 ∷ []

abbrev keywords : List (ℕ × List ℕ) → Record
keywords items = record { rec = 2; number = 25; items = items } ∷ record { rec = 2; number = 120; items = (120, 99 ∷ []) ∷ [] } ∷ []

abbrev ascending : Record
ascending = keywords ((25, 97 ∷ []) ∷ (25, 98 ∷ []) ∷ [])

-- order counts inside a group alone
caption_between : iim_of (keyword 97 ++ caption ++ keyword 98) ≡ Some ascending
unfolding opened keyword caption
caption_between = refl

caption_after : iim_of (keyword 97 ++ keyword 98 ++ caption) ≡ Some ascending
unfolding opened keyword caption
caption_after = refl

other_order : iim_of (keyword 98 ++ keyword 97 ++ caption) ≡ Some (keywords ((25, 98 ∷ []) ∷ (25, 97 ∷ []) ∷ []))
unfolding opened keyword caption
other_order = refl

ascending_normal : normal_iim ascending ≡ keyword 97 ++ keyword 98 ++ caption
unfolding opened keyword caption
ascending_normal = refl

-- repeats are kept
keyword_repeated : iim_of (keyword 97 ++ keyword 97) ≡ Some (record
    { rec = 2; number = 25; items = (25, 97 ∷ []) ∷ (25, 97 ∷ []) ∷ [] } ∷ [])
unfolding opened keyword
keyword_repeated = refl

-- a by-line's title is among the by-lines
abbrev byline : ℕ → List ℕ
byline o = 0x1C ∷ 2 ∷ 80 ∷ 0 ∷ 1 ∷ o ∷ []

abbrev title : List ℕ
title = 0x1C ∷ 2 ∷ 85 ∷ 0 ∷ 1 ∷ 88 ∷ []

title_between : iim_of (byline 65 ++ title ++ byline 66) ≡ Some
    (record { rec = 2; number = 80; items = (80, 65 ∷ []) ∷ (85, 88 ∷ []) ∷ (80, 66 ∷ []) ∷ [] } ∷ [])
unfolding opened
title_between = refl

title_after : iim_of (byline 65 ++ byline 66 ++ title) ≡ Some
    (record { rec = 2; number = 80; items = (80, 65 ∷ []) ∷ (80, 66 ∷ []) ∷ (85, 88 ∷ []) ∷ [] } ∷ [])
unfolding opened
title_after = refl

-- the same caption with an extended count, with a standard one, and with zeros at the end
abbrev abc : Record
abc = record { rec = 2; number = 120; items = (120, 97 ∷ 98 ∷ 99 ∷ []) ∷ [] } ∷ []

abbrev standard : List ℕ
standard = 0x1C ∷ 2 ∷ 0x78 ∷ 0 ∷ 3 ∷ 97 ∷ 98 ∷ 99 ∷ []

caption_extended : iim_of (0x1C ∷ 2 ∷ 0x78 ∷ 0x80 ∷ 4 ∷ 0 ∷ 0 ∷ 0 ∷ 3 ∷ 97 ∷ 98 ∷ 99 ∷ []) ≡ Some abc
unfolding opened
caption_extended = refl

caption_plain : iim_of standard ≡ Some abc
unfolding opened
caption_plain = refl

caption_padded : iim_of (standard ++ 0 ∷ 0 ∷ 0 ∷ []) ≡ Some abc
unfolding opened
caption_padded = refl

normal_caption : normal_iim abc ≡ standard
unfolding opened
normal_caption = refl

-- no data
caption_empty : iim_of (0x1C ∷ 2 ∷ 0x78 ∷ 0 ∷ 0 ∷ []) ≡ Some (record { rec = 2; number = 120; items = (120, []) ∷ [] } ∷ [])
unfolding opened
caption_empty = refl

-- the longest standard count, and the shortest extended one of a normal form
longest_standard : normal_count 32767 ≡ 0x7F ∷ 0xFF ∷ []
unfolding opened
longest_standard = refl

shortest_extended : normal_count 32768 ≡ 0x80 ∷ 4 ∷ 0 ∷ 0 ∷ 0x80 ∷ 0 ∷ []
unfolding opened
shortest_extended = refl

-- ---- first faults

abbrev first : List ℕ → Option (Cause × ℕ)
first x = first_false (iim_checks x)

four_zeros : first (standard ++ 0 ∷ 0 ∷ 0 ∷ 0 ∷ []) ≡ Some (NoMarker, 8)
unfolding opened
four_zeros = refl

first_of_nothing : first [] ≡ Some (NoMarker, 0)
unfolding opened
first_of_nothing = refl

one_zero : first (0 ∷ []) ≡ Some (NoMarker, 0)
unfolding opened
one_zero = refl

count_of_none : first (0x1C ∷ 2 ∷ 0x78 ∷ 0x80 ∷ 0 ∷ []) ≡ Some (LengthForm, 0)
unfolding opened
count_of_none = refl

count_of_five : first (0x1C ∷ 2 ∷ 0x78 ∷ 0x80 ∷ 5 ∷ []) ≡ Some (LengthForm, 0)
unfolding opened
count_of_five = refl

tag_cut : first (0x1C ∷ 2 ∷ 0x78 ∷ 0 ∷ []) ≡ Some (DataSetCut, 0)
unfolding opened
tag_cut = refl

data_cut : first (0x1C ∷ 2 ∷ 0x78 ∷ 0 ∷ 3 ∷ 97 ∷ 98 ∷ []) ≡ Some (DataSetCut, 0)
unfolding opened
data_cut = refl

count_cut : first (0x1C ∷ 2 ∷ 0x78 ∷ 0x80 ∷ 4 ∷ 0 ∷ []) ≡ Some (DataSetCut, 0)
unfolding opened
count_cut = refl

no_fault : first standard ≡ None
unfolding opened
no_fault = refl
