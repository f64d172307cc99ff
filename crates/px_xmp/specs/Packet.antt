-- A packet: its document, and what is around it.
-- Example: of a line feed, `<a/>` and two zeros, `<a/>` is the document; the other octets are padding.
use Rattle.std.specs.Prelude.{◌≡◌, ◌≢◌, ◌≤◌, ◌==◌, ◌||◌, ◌⊎◌, ◌++◌, ℕ, Bool, true, nat_eq, List, [], ◌∷◌, length}
use Rattle.std.specs.List.{starts_with}
use Rattle.px_bytes.specs.Parts.{limit}
use Rattle.px_xmp_marks.specs.Declarations.{every}
use Rattle.px_xmp_document.specs.Document.{IsFile}

-- a zero, or white space
abbrev pub is_padding : ℕ → Bool
is_padding o = (o == 0) || (o == 32) || (o == 9) || (o == 10) || (o == 13)

-- a zero, white space, or an octet of UTF-8's byte order mark, EF BB BF
abbrev pub is_around : ℕ → Bool
is_around o = is_padding o || (o == 239) || (o == 187) || (o == 191)

-- an octet of padding, or the byte order mark of UTF-8
abbrev pub IsAround : List ℕ → Type 0
IsAround m = ((o : ℕ) × (is_padding o ≡ true) × (m ≡ o ∷ [])) ⊎ (m ≡ 239 ∷ 187 ∷ 191 ∷ [])

-- octets begin as UTF-16 or UTF-32 does: with its byte order mark, or with a `<` of two octets or four (XML 1.0, F.1)
abbrev pub is_wide : List ℕ → Bool
is_wide x =
    starts_with nat_eq x (255 ∷ 254 ∷ []) || starts_with nat_eq x (254 ∷ 255 ∷ []) || starts_with nat_eq x (0 ∷ 0 ∷ 254 ∷ 255 ∷ [])
    || starts_with nat_eq x (60 ∷ 0 ∷ []) || starts_with nat_eq x (0 ∷ 60 ∷ []) || starts_with nat_eq x (0 ∷ 0 ∷ 0 ∷ 60 ∷ [])

-- x is octets of padding and byte order marks in a row
abbrev pub AreAround : List (List ℕ) → List ℕ → Type 0
AreAround [] x = x ≡ []
AreAround (m ∷ more) x = IsAround m × (rest : List ℕ) × (x ≡ m ++ rest) × AreAround more rest

-- no padding and no byte order mark is at the start
abbrev pub BeginsBare : List ℕ → Type 0
BeginsBare x = (m y : List ℕ) → IsAround m → x ≢ m ++ y

-- no padding is at the end
abbrev pub EndsBare : List ℕ → Type 0
EndsBare x = (o : ℕ) (y : List ℕ) → is_padding o ≡ true → x ≢ y ++ o ∷ []

-- a document; before it all padding and byte order marks at the start, and after it all padding at the end
pub record IsPacket (x : List ℕ) : Type 0 where
  pub before : List ℕ
  pub document : List ℕ
  pub after : List ℕ
  pub joined : x ≡ before ++ document ++ after
  pub few : length x ≤ limit
  pub pieces : List (List ℕ)
  pub around : AreAround pieces before
  pub padding : every is_padding after ≡ true
  pub first : BeginsBare (document ++ after)
  pub last : EndsBare document
  pub file : IsFile document
