-- What `show` and `captions` print, and how their runs end.
use Rattle.std.specs.Prelude.{◌≡◌, ℕ, Bool, List, Option, Result, Ok, Err}
use Rattle.std.specs.Io.KnownBytes.{Appends}
use Rattle.px_bytes.specs.Devices.{AppendsPrefix, Calls}
use Rattle.px_bytes.specs.Reading.{ReadsUpTo}
use Rattle.px_text.specs.Listing.{exif_listing, iim_listing}
use Rattle.px_text.specs.Captions.{Labelled, captions_of_exif, captions_of_iim, exif_text, iim_text}
use Rattle.px_engine.specs.declared.error.Fault.{Fault}
use Rattle.px_engine.specs.declared.error.Fault.TheVariants.{WriteFailed}
use Rattle.px_engine.specs.Files.{Said, Exif, Iim}
use Rattle.px_engine.specs.Input.{HasMeaning, CountsReads, most_read}
use Rattle.px_engine.specs.Runs.{KnownMeaning, Stops}

-- the text that `show` prints
abbrev pub listing : Said → List ℕ
listing (Exif m) = exif_listing m
listing (Iim i) = iim_listing i

-- whether UTF-8 is declared, and the captions
abbrev pub captions_in : Said → Bool × List Labelled
captions_in (Exif m) = captions_of_exif m
captions_in (Iim i) = captions_of_iim i

-- the text of the captions
abbrev pub caption_text : Said → List ℕ
caption_text (Exif m) = exif_text m
caption_text (Iim i) = iim_text i

-- The writer had taken `old` before the run of `file` and has taken `new` after it. Success: exactly the text of the file's
-- meaning. A failed write: a prefix of it. Every other fault: nothing. No text is too long.
abbrev pub Prints : {A : Type 0} → (Said → List ℕ) → Result A Fault → Option (List ℕ) → Option (List ℕ) → Option (List ℕ) → Type 0
Prints text (Ok x) file old new = (s : Said) × KnownMeaning file s × Appends old new (text s)
Prints text (Err WriteFailed) file old new = (s : Said) × KnownMeaning file s × AppendsPrefix old new (text s)
Prints text (Err fault) file old new = Stops fault file × (new ≡ old)

-- The same for a file whose bytes were read: of any reader from which they were, also of a longer file.
abbrev pub PrintsRead : {A : Type 0} → (Said → List ℕ) → Result A Fault → List ℕ → Option (List ℕ) → Option (List ℕ) → Type 0
PrintsRead text r bytes old new =
    (left left_now : Option (List ℕ)) → ReadsUpTo left left_now most_read bytes → Prints text r left old new

-- no call of a reader failed
abbrev pub ReadsNothing : {A : Type 0} → Result A Fault → Type 0
ReadsNothing r = (calls : Calls) → CountsReads r calls calls

-- `out` is the text of the meaning of the bytes that were read
abbrev pub IsTextOf : (Said → List ℕ) → List ℕ → List ℕ → Type 0
IsTextOf text bytes out = (s : Said) × HasMeaning bytes s × (out ≡ text s)
