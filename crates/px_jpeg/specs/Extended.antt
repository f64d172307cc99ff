-- A piece of extended XMP, after its mark. XMP part 3, 1.1.3.1.
use Rattle.std.specs.Prelude.{◌≡◌, ◌≤◌, ℕ, List, length, drop}
use Rattle.px_jpeg.specs.declared.extended.Extended.{Extended}
use Rattle.px_jpeg.specs.ResourceReading.{number4}

-- an identifier of 32 bytes, and two numbers of four bytes
abbrev pub head_len : ℕ
head_len = 40

-- after the identifier are the length of the whole text and the offset of the piece, most significant byte first
pub record IsExtended (x : List ℕ) (e : Extended) : Type 0 where
  pub long : head_len ≤ length x
  pub total : e.total ≡ number4 (drop 32 x)
  pub offset : e.offset ≡ number4 (drop 36 x)
