-- The effect of writing a normal form.
use Rattle.std.specs.Prelude.{◌≡◌, ◌<◌, ◌≤◌, ℕ, List, length, Option, Result, Ok, Err}
use Rattle.std.specs.Io.KnownBytes.{Appends}
use Rattle.px_bytes.specs.declared.WriteRefusal.{WriteRefusal}
use Rattle.px_bytes.specs.declared.WriteRefusal.TheVariants.{NormalTooLong, OutOfMemory, WriteFailed}
use Rattle.px_bytes.specs.Devices.{AppendsPrefix, Calls, FailsOnce, one_flush}
use Rattle.px_bytes.specs.Parts.{limit}
use Rattle.px_meaning.specs.Tree.{Meaning}
use Rattle.px_layout.specs.Normal.{normal_exif}

-- the writer has taken the meaning's normal form, and the result is its length; a form that is too long leaves the writer
-- unchanged; if a call failed, the writer has taken a prefix of the form; the result is never out of memory; one flush follows
-- the form, and it may be the call that failed
abbrev pub WritesExif : Result ℕ WriteRefusal → Option (List ℕ) → Option (List ℕ) → Calls → Calls → Meaning → Type 0
WritesExif (Ok n) old new calls calls_now m =
    Appends old new (normal_exif m) × (n ≡ length (normal_exif m)) × (n ≤ limit) × (calls_now ≡ one_flush calls)
WritesExif (Err NormalTooLong) old new calls calls_now m = (limit < length (normal_exif m)) × (new ≡ old) × (calls_now ≡ calls)
WritesExif (Err OutOfMemory) old new calls calls_now m = ⊥
WritesExif (Err WriteFailed) old new calls calls_now m =
    (length (normal_exif m) ≤ limit) × AppendsPrefix old new (normal_exif m) × FailsOnce calls calls_now
