-- Languages. RFC 3066, 2.1.
use Rattle.std.specs.Prelude.{◌≡◌, ◌≤◌, ◌⊎◌, ◌++◌, ◌&&◌, ◌||◌, ℕ, Bool, true, false, not, nat_le, List, [], ◌∷◌, length}
use Rattle.std.specs.List.{list_all}

-- a limit of this reader: the octets of a language
abbrev pub language_limit : ℕ
language_limit = 100

-- [A-Za-z]
abbrev pub is_letter : ℕ → Bool
is_letter o = (nat_le 97 o && nat_le o 122) || (nat_le 65 o && nat_le o 90)

-- [0-9]
abbrev pub is_digit : ℕ → Bool
is_digit o = nat_le 48 o && nat_le o 57

-- an octet of a part: a letter, or after the first part a digit
abbrev pub is_part_octet : Bool → ℕ → Bool
is_part_octet first o = is_letter o || (not first && is_digit o)

-- one to eight of these
abbrev pub IsPart : Bool → List ℕ → Type 0
IsPart first x = (list_all (is_part_octet first) x ≡ true) × (1 ≤ length x) × (length x ≤ 8)

-- parts with hyphens between them
abbrev pub AreParts : Bool → List (List ℕ) → List ℕ → Type 0
AreParts first [] x = ⊥
AreParts first (p ∷ []) x = IsPart first p × (x ≡ p)
AreParts first (p ∷ q ∷ ps) x = IsPart first p × (rest : List ℕ) × (x ≡ p ++ 45 ∷ rest) × AreParts false (q ∷ ps) rest

-- what may follow a part: nothing, or a hyphen
abbrev pub EndsPart : List ℕ → Type 0
EndsPart x = (x ≡ []) ⊎ ((rest : List ℕ) × (x ≡ 45 ∷ rest))

-- a language: parts with hyphens between them, of which the first has letters alone
abbrev pub IsLanguage : List ℕ → Type 0
IsLanguage x = (ps : List (List ℕ)) × AreParts true ps x
