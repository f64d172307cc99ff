-- The grammar of references, apart from how they are read. XML 1.0, productions 66 to 68, and 4.6.
use Rattle.std.specs.Prelude.{◌≡◌, ◌<◌, ◌≤◌, ◌+◌, ◌*◌, ◌⊎◌, ℕ, true, Some, List, [], ◌∷◌, ◌++◌, length, codes, ⊤}
use Rattle.px_xmp_text.specs.References.{is_char, digit_value, reference}

-- these octets are digits with these values, in a base
abbrev pub AreDigits : ℕ → List ℕ → List ℕ → Type 0
AreDigits base [] [] = ⊤
AreDigits base (c ∷ x) (d ∷ ds) = (digit_value c ≡ Some d) × (d < base) × AreDigits base x ds
AreDigits base [] (d ∷ ds) = ⊥
AreDigits base (c ∷ x) [] = ⊥

-- the number of digits that follow digits with the number v
abbrev pub number_of : ℕ → ℕ → List ℕ → ℕ
number_of base v [] = v
number_of base v (d ∷ ds) = number_of base (v * base + d) ds

-- a character reference: a mark, one digit or more of a character's number, a semicolon
pub record IsCharacterReference (mark : List ℕ) (base : ℕ) (x : List ℕ) (n : ℕ) : Type 0 where
  pub octets : List ℕ
  pub values : List ℕ
  pub digits : AreDigits base octets values
  pub some : 1 ≤ length octets
  pub number : n ≡ number_of base 0 values
  pub allowed : is_char n ≡ true
  pub whole : x ≡ mark ++ (octets ++ 59 ∷ [])

-- a reference to a predefined entity
abbrev pub IsEntityReference : List ℕ → ℕ → Type 0
IsEntityReference x n =
    ((x ≡ codes "&amp;") × (n ≡ 38)) ⊎ ((x ≡ codes "&lt;") × (n ≡ 60)) ⊎ ((x ≡ codes "&gt;") × (n ≡ 62))
    ⊎ ((x ≡ codes "&quot;") × (n ≡ 34)) ⊎ ((x ≡ codes "&apos;") × (n ≡ 39))

-- these octets are a reference to the character n
abbrev pub IsReference : List ℕ → ℕ → Type 0
IsReference x n =
    IsEntityReference x n ⊎ IsCharacterReference (codes "&#") 10 x n ⊎ IsCharacterReference (codes "&#x") 16 x n

-- Each reference is read, whatever follows it.
abbrev pub ReferencesAreRead : Type 0
ReferencesAreRead = (x rest : List ℕ) (n : ℕ) → IsReference x n → reference (x ++ rest) ≡ Some (n, length x)

-- What is read is a reference.
abbrev pub OnlyReferencesAreRead : Type 0
OnlyReferencesAreRead = (x : List ℕ) (n size : ℕ) → reference x ≡ Some (n, size)
    → (spelled rest : List ℕ) × (x ≡ spelled ++ rest) × (size ≡ length spelled) × IsReference spelled n
