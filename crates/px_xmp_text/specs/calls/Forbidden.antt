-- A text with a character that XML does not allow.
use Rattle.std.specs.Prelude.{◌≡◌, ◌<◌, ℕ, false, List, ◌++◌, length, drop, take}
use Rattle.std.specs.Char.{encode_utf8}
use Rattle.px_xmp_text.specs.References.{is_char}
use Rattle.px_xmp_text.specs.Characters.{AreCharacters}

-- the first n octets are characters that XML allows, and the character after them is not
pub record IsForbidden (x : List ℕ) (n : ℕ) : Type 0 where
  pub within : n < length x
  pub before : AreCharacters (take n x)
  pub character : ℕ
  pub rest : List ℕ
  pub forbidden : is_char character ≡ false
  pub there : drop n x ≡ encode_utf8 character ++ rest
