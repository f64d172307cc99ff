-- The program's representation of the offsets of a normal form's parts.
use Rattle.std.specs.Prelude.{◌≡◌, ℕ, ◌<◌, ◌≤◌, Option, Some, None, length, Result, Ok, Err}
use Rattle.px_bytes.specs.declared.WriteRefusal.{WriteRefusal}
use Rattle.px_bytes.specs.declared.WriteRefusal.TheVariants.{NormalTooLong, OutOfMemory, WriteFailed}
use Rattle.px_bytes.specs.Parts.{limit}
use Rattle.px_meaning.specs.declared.Dir.TheVariants.{Exif, Interop, Gps, Thumb}
use Rattle.px_meaning.specs.Tree.{Meaning}
use Rattle.px_layout.specs.declared.starts.Starts as program
use Rattle.px_layout.specs.Normal.{normal_exif}
use Rattle.px_layout.specs.lemmas.RunLaws.{start, thumb_start, strips_start}

-- some n if that is at most the limit, otherwise none
abbrev pub SomeIfWithinLimit : Option ℕ → ℕ → Type 0
SomeIfWithinLimit (Some end) n = (end ≡ n) × (end ≤ limit)
SomeIfWithinLimit None n = limit < n

-- the offset of each part
pub record AreStarts (s : program.Starts) (m : Meaning) : Type 0 where
  pub exif : s.exif ≡ start m Exif
  pub interop : s.interop ≡ start m Interop
  pub gps : s.gps ≡ start m Gps
  pub thumb : s.thumb ≡ start m Thumb
  pub jpeg : s.jpeg ≡ thumb_start m
  pub strips : s.strips ≡ strips_start m
  pub ends : s.end ≡ length (normal_exif m)
  pub most : s.end ≤ limit

-- the parts of a form that is not too long
abbrev pub StartsResult : Result program.Starts WriteRefusal → Meaning → Type 0
StartsResult (Ok s) m = AreStarts s m
StartsResult (Err NormalTooLong) m = limit < length (normal_exif m)
StartsResult (Err OutOfMemory) m = ⊥
StartsResult (Err WriteFailed) m = ⊥
