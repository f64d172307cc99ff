-- CDATA sections: how they are read, and the grammar. XML 1.0, 2.7.
use Rattle.std.specs.Prelude.{◌≡◌, ◌≢◌, ℕ, suc, nat_eq, if◌then◌else◌, codes}
use Rattle.std.specs.Prelude.{Option, Some, None, option_map, List, [], ◌∷◌, ◌++◌, drop, take}
use Rattle.std.specs.List.{starts_with}

-- the number of octets before the first place where w begins, which follow n others
unfoldable pub find : List ℕ → ℕ → List ℕ → Option ℕ
find w n [] = None
find w n (o ∷ x) = if starts_with nat_eq (o ∷ x) w then Some n else find w (suc n) x

-- the content of the section at the start
unfoldable pub section : List ℕ → Option (List ℕ)
section x =
    if starts_with nat_eq x (codes "<![CDATA[") then option_map (λ n. take n (drop 9 x)) (find (codes "]]>") 0 (drop 9 x))
    else None

-- w is nowhere in x
abbrev pub HasNo : List ℕ → List ℕ → Type 0
HasNo w x = (a b : List ℕ) → x ≢ a ++ (w ++ b)

-- a section (productions 18 to 21)
abbrev pub IsSection : List ℕ → List ℕ → Type 0
IsSection x content = HasNo (codes "]]>") content × (x ≡ codes "<![CDATA[" ++ (content ++ codes "]]>"))

-- Each section is read, whatever follows it.
abbrev pub SectionsAreRead : Type 0
SectionsAreRead = (x rest content : List ℕ) → IsSection x content → section (x ++ rest) ≡ Some content

-- What is read as a section is one.
abbrev pub OnlySectionsAreRead : Type 0
OnlySectionsAreRead = (x content : List ℕ) → section x ≡ Some content → (y rest : List ℕ) × (x ≡ y ++ rest) × IsSection y content
