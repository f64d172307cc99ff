-- The characters of a document, in UTF-8. XML 1.0, 2.2 and 4.3.3.
use Rattle.std.specs.Prelude.{◌≡◌, ◌≢◌, ◌<◌, ℕ, true, List, ◌++◌, length, drop, take}
use Rattle.std.specs.List.{AllByRecursion}
use Rattle.std.specs.Char.{encode_utf8}
use Rattle.std.specs.Str.{encode_utf8_all}
use Rattle.px_xmp_text.specs.References.{is_char}

-- characters that XML allows, in UTF-8
abbrev pub AreCharacters : List ℕ → Type 0
AreCharacters x = (cs : List ℕ) × AllByRecursion (λ c. is_char c ≡ true) cs × (x ≡ encode_utf8_all cs)

-- no character that XML allows is at the start
abbrev pub BeginsWithNone : List ℕ → Type 0
BeginsWithNone x = (c : ℕ) (rest : List ℕ) → is_char c ≡ true → x ≢ encode_utf8 c ++ rest

-- the first n octets are characters, and none is at the start of the others
pub record IsFirstBad (x : List ℕ) (n : ℕ) : Type 0 where
  pub within : n < length x
  pub before : AreCharacters (take n x)
  pub none : BeginsWithNone (drop n x)

-- Octets are characters, or there is one first place where none is, and not both.
abbrev pub CharactersOrFault : Type 0
CharactersOrFault = (x : List ℕ) (m : ℕ) → IsFirstBad x m → (AreCharacters x → ⊥) × ((n : ℕ) → IsFirstBad x n → m ≡ n)
