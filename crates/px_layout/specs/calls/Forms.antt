-- The program's representation of a normal form.
use Rattle.std.specs.Prelude.{◌≡◌, ◌<◌, ◌≤◌, length, Result, Ok, Err}
use Rattle.px_bytes.specs.declared.WriteRefusal.{WriteRefusal}
use Rattle.px_bytes.specs.declared.WriteRefusal.TheVariants.{NormalTooLong, OutOfMemory, WriteFailed}
use Rattle.px_bytes.specs.Parts.{limit}
use Rattle.px_meaning.specs.Tree.{Meaning}
use Rattle.px_meaning.specs.Writable.{IsWritable}
use Rattle.px_meaning.specs.calls.Seen.{meaning_of}
use Rattle.px_layout.specs.declared.form.NormalForm.{NormalForm}
use Rattle.px_layout.specs.Plans.{Plan}
use Rattle.px_layout.specs.Normal.{normal_plan, normal_exif}
use Rattle.px_layout.specs.calls.Starting.{AreStarts}

-- the meaning of the normal form
abbrev pub meaning_in : NormalForm → Meaning
meaning_in form = meaning_of form.m.now

-- the plan of the normal form
abbrev pub plan_in : NormalForm → Plan
plan_in form = normal_plan (meaning_in form)

-- the meaning can be written, its form is not too long, and the offsets of its parts are right
abbrev pub IsWritableForm : NormalForm → Type 0
IsWritableForm form = IsWritable (meaning_in form) × AreStarts form.starts (meaning_in form)

-- the meaning's form; or it is too long
abbrev pub FormResult : Result NormalForm WriteRefusal → Meaning → Type 0
FormResult (Ok form) m = IsWritableForm form × (meaning_in form ≡ m) × (length (normal_exif m) ≤ limit)
FormResult (Err NormalTooLong) m = limit < length (normal_exif m)
FormResult (Err OutOfMemory) m = ⊥
FormResult (Err WriteFailed) m = ⊥
