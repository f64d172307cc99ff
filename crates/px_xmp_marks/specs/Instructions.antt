-- Processing instructions: how they are read, and the grammar. XML 1.0, 2.6; Namespaces in XML 1.0, 7.
use Rattle.std.specs.Prelude.{◌≡◌, ◌≤◌, ◌+◌, ◌==◌, ◌&&◌, ◌||◌, ◌⊎◌, ℕ, Bool, false, nat_eq, if◌then◌else◌, codes}
use Rattle.std.specs.Prelude.{Option, Some, None, option_and_then, List, [], ◌∷◌, ◌++◌, length, drop, take}
use Rattle.std.specs.List.{starts_with}
use Rattle.px_xmp_marks.specs.Reading.{is_space, ncname}
use Rattle.px_xmp_marks.specs.Grammar.{AreSpaces, IsNcName}
use Rattle.px_xmp_marks.specs.Sections.{find, HasNo}

-- `xml`, in any case
abbrev pub is_reserved : List ℕ → Bool
is_reserved [] = false
is_reserved (x ∷ []) = false
is_reserved (x ∷ m ∷ []) = false
is_reserved (x ∷ m ∷ l ∷ []) = ((x == 120) || (x == 88)) && ((m == 109) || (m == 77)) && ((l == 108) || (l == 76))
is_reserved (x ∷ m ∷ l ∷ o ∷ more) = false

-- white space is at the start
abbrev pub begins_space : List ℕ → Bool
begins_space [] = false
begins_space (o ∷ x) = is_space o

-- the length of an instruction whose target has n octets, and the octets y after it, of which k precede the end
abbrev pub to_end : ℕ → List ℕ → ℕ → Option ℕ
to_end n y k = if (k == 0) || begins_space y then Some (2 + n + k + 2) else None

-- the length of an instruction whose target is the first n octets of y
abbrev pub from_target : List ℕ → ℕ → Option ℕ
from_target y n =
    if is_reserved (take n y) then None else option_and_then (to_end n (drop n y)) (find (codes "?>") 0 (drop n y))

-- the length of the instruction at the start
unfoldable pub instruction : List ℕ → Option ℕ
instruction x =
    if starts_with nat_eq x (codes "<?") then option_and_then (from_target (drop 2 x)) (ncname (drop 2 x)) else None

-- a processing instruction (production 16): a target other than `xml` (17), without a colon (Namespaces, 7), and perhaps
-- white space and then anything but `?>`
pub record IsInstruction (x : List ℕ) : Type 0 where
  pub target : List ℕ
  pub space : List ℕ
  pub content : List ℕ
  pub name : IsNcName target
  pub other : is_reserved target ≡ false
  pub spaced : AreSpaces space
  pub parted : ((space ≡ []) × (content ≡ [])) ⊎ (1 ≤ length space)
  pub inside : HasNo (codes "?>") content
  pub whole : x ≡ codes "<?" ++ (target ++ (space ++ (content ++ codes "?>")))

-- Each instruction is read, whatever follows it.
abbrev pub InstructionsAreRead : Type 0
InstructionsAreRead = (x rest : List ℕ) → IsInstruction x → instruction (x ++ rest) ≡ Some (length x)

-- What is read as an instruction is one.
abbrev pub OnlyInstructionsAreRead : Type 0
OnlyInstructionsAreRead = (x : List ℕ) (n : ℕ) → instruction x ≡ Some n
    → (y rest : List ℕ) × (x ≡ y ++ rest) × (n ≡ length y) × IsInstruction y
