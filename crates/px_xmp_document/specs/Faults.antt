-- What is wrong with a document, and where.
use Rattle.std.specs.Prelude.{◌≡◌, ◌+◌, ℕ, false, true, Option, List, length, drop}
use Rattle.px_xmp_text.specs.Characters.{AreCharacters, IsFirstBad}
use Rattle.px_xmp_document.specs.declared.faults.Cause.{Cause}
use Rattle.px_xmp_document.specs.declared.faults.Cause.TheVariants.{NoCharacter, OtherEncoding, Nesting, Attributes, Spaces}
use Rattle.px_xmp_document.specs.Elements.{IsElementFault}
use Rattle.px_xmp_document.specs.Document.{is_read, IsSplit, order_mark_len}

-- octets are characters, and their declaration names another encoding than UTF-8
pub record HasEncoding (x : List ℕ) : Type 0 where
  pub declaration : List ℕ
  pub encoding : Option (List ℕ)
  pub tree : List ℕ
  pub characters : AreCharacters x
  pub parts : IsSplit x declaration encoding tree
  pub other : is_read encoding ≡ false

-- octets are characters in UTF-8, and what follows their declaration has a fault
pub record HasElementFault (x : List ℕ) (c : Cause) (n : ℕ) : Type 0 where
  pub declaration : List ℕ
  pub encoding : Option (List ℕ)
  pub tree : List ℕ
  pub offset : ℕ
  pub characters : AreCharacters x
  pub parts : IsSplit x declaration encoding tree
  pub encoded : is_read encoding ≡ true
  pub wrong : IsElementFault tree c offset
  pub place : n ≡ length declaration + offset

-- the first fault: of the characters, else of the encoding, else of the elements
abbrev pub IsFault : List ℕ → Cause → ℕ → Type 0
IsFault x NoCharacter n = IsFirstBad x n
IsFault x OtherEncoding n = HasEncoding x × (n ≡ 0)
IsFault x (Nesting c) n = HasElementFault x (Nesting c) n
IsFault x (Attributes c) n = HasElementFault x (Attributes c) n
IsFault x (Spaces c) n = HasElementFault x (Spaces c) n

-- the first fault of a document with a byte order mark, or without
abbrev pub IsFileFault : List ℕ → Cause → ℕ → Type 0
IsFileFault x c n = (m : ℕ) × IsFault (drop (order_mark_len x) x) c m × (n ≡ order_mark_len x + m)
