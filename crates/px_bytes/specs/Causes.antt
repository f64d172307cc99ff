-- The names of causes, and their numbers.
use Rattle.std.specs.Prelude.{ℕ, List, codes, ◌==◌, if◌then◌else◌, Option, Some, None}
use Rattle.px_bytes.specs.declared.causes.Cause.{Cause}
use Rattle.px_bytes.specs.declared.causes.Cause.TheVariants as cause

-- the name of a cause, as it is printed, in ASCII
abbrev pub name_of : Cause → List ℕ
name_of cause.TooLong = codes "TooLong"
name_of cause.UnknownKind = codes "UnknownKind"
name_of cause.HeaderCut = codes "HeaderCut"
name_of cause.Loop = codes "Loop"
name_of cause.DirectoryOutside = codes "DirectoryOutside"
name_of cause.EmptyDirectory = codes "EmptyDirectory"
name_of cause.Overlap = codes "Overlap"
name_of cause.Unsorted = codes "Unsorted"
name_of cause.Doubled = codes "Doubled"
name_of cause.UnknownType = codes "UnknownType"
name_of cause.MisplacedOffset = codes "MisplacedOffset"
name_of cause.PointerForm = codes "PointerForm"
name_of cause.ValueOutside = codes "ValueOutside"
name_of cause.ThumbnailPair = codes "ThumbnailPair"
name_of cause.ExtraDirectory = codes "ExtraDirectory"
name_of cause.ThumbnailOutside = codes "ThumbnailOutside"
name_of cause.NoMarker = codes "NoMarker"
name_of cause.LengthForm = codes "LengthForm"
name_of cause.DataSetCut = codes "DataSetCut"

-- the cause with a number, if there is one
unfoldable pub cause_of : ℕ → Option Cause
cause_of n =
    if n == 1 then Some cause.TooLong
    else if n == 2 then Some cause.UnknownKind
    else if n == 3 then Some cause.HeaderCut
    else if n == 4 then Some cause.Loop
    else if n == 5 then Some cause.DirectoryOutside
    else if n == 6 then Some cause.EmptyDirectory
    else if n == 7 then Some cause.Overlap
    else if n == 8 then Some cause.Unsorted
    else if n == 9 then Some cause.Doubled
    else if n == 10 then Some cause.UnknownType
    else if n == 11 then Some cause.MisplacedOffset
    else if n == 12 then Some cause.PointerForm
    else if n == 13 then Some cause.ValueOutside
    else if n == 14 then Some cause.ThumbnailPair
    else if n == 15 then Some cause.ExtraDirectory
    else if n == 16 then Some cause.ThumbnailOutside
    else if n == 17 then Some cause.NoMarker
    else if n == 18 then Some cause.LengthForm
    else if n == 19 then Some cause.DataSetCut
    else None
