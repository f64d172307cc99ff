-- The XML declaration: how it is read, and the grammar. XML 1.0, 2.8, 2.9 and 4.3.3.
use Rattle.std.specs.Prelude.{◌≡◌, ◌≤◌, ◌+◌, ◌==◌, ◌&&◌, ◌||◌, ◌⊎◌, ℕ, Bool, true, false, nat_le, nat_eq, if◌then◌else◌, codes}
use Rattle.std.specs.Prelude.{Option, Some, None, option_map, option_and_then, List, [], ◌∷◌, ◌++◌, length, drop}
use Rattle.std.specs.List.{starts_with}
use Rattle.px_xmp_marks.specs.Reading.{space_len, eq_len, att_value}
use Rattle.px_xmp_marks.specs.Grammar.{AreSpaces, IsEq}
use Rattle.px_xmp_marks.specs.declared.declarations.Info.{Info}
use Rattle.px_xmp_marks.specs.declared.declarations.Declaration.{Declaration}

-- each of these octets passes the test f
abbrev pub every : (ℕ → Bool) → List ℕ → Bool
every f [] = true
every f (o ∷ x) = f o && every f x

-- [0-9]
abbrev pub is_digit : ℕ → Bool
is_digit o = nat_le 48 o && nat_le o 57

-- [A-Za-z]
abbrev pub is_letter : ℕ → Bool
is_letter o = (nat_le 97 o && nat_le o 122) || (nat_le 65 o && nat_le o 90)

-- '1.' [0-9]+ (production 26)
abbrev pub is_version : List ℕ → Bool
is_version [] = false
is_version (a ∷ []) = false
is_version (a ∷ b ∷ []) = false
is_version (a ∷ b ∷ o ∷ x) = (a == 49) && (b == 46) && is_digit o && every is_digit x

-- [A-Za-z0-9._] | '-'
abbrev pub is_encoding_char : ℕ → Bool
is_encoding_char o = is_letter o || is_digit o || (o == 46) || (o == 95) || (o == 45)

-- [A-Za-z] ([A-Za-z0-9._] | '-')* (production 81)
abbrev pub is_encoding : List ℕ → Bool
is_encoding [] = false
is_encoding (o ∷ x) = is_letter o && every is_encoding_char x

-- 'yes' | 'no' (production 32)
abbrev pub is_standalone : List ℕ → Bool
is_standalone [] = false
is_standalone (a ∷ []) = false
is_standalone (a ∷ b ∷ []) = (a == 110) && (b == 111)
is_standalone (a ∷ b ∷ c ∷ []) = (a == 121) && (b == 101) && (c == 115)
is_standalone (a ∷ b ∷ c ∷ d ∷ x) = false

-- ---- how it is read

-- the value of a part, and the length of the part
pub record Part : Type 0 where
  pub value : List ℕ
  pub size : ℕ

-- a stored part as it is read
abbrev pub part_view : Info → Part
part_view i = record { value = i.value.now; size = i.size }

-- the part whose name has ended: n octets are before y
abbrev pub from_equals : ℕ → List ℕ → ℕ → Option Part
from_equals n y e = option_map (λ v. record { value = v; size = n + e + (length v + 2) }) (att_value (drop e y))

-- the part whose name is before y, at the start of which an equals sign is expected; n octets are
-- before y
abbrev pub after_name : ℕ → List ℕ → Option Part
after_name n y = option_and_then (from_equals n y) (eq_len y)

-- the part at the start with the name w
unfoldable pub part : List ℕ → List ℕ → Option Part
part w x =
    if space_len x == 0 then None
    else if starts_with nat_eq (drop (space_len x) x) w then after_name (space_len x + length w) (drop (length w) (drop (space_len x) x))
    else None

-- a part, if its value passes the test f
abbrev pub if_passes : (List ℕ → Bool) → Part → Option Part
if_passes f p = if f p.value then Some p else None

-- the part with the name w at the start, if its value passes the test f
unfoldable pub checked : List ℕ → (List ℕ → Bool) → List ℕ → Option Part
checked w f x = option_and_then (if_passes f) (part w x)

-- the length of a part, 0 if it is missing
abbrev pub size_of : Option Part → ℕ
size_of None = 0
size_of (Some p) = p.size

-- the value of a part that may be missing
abbrev pub value_of : Option Part → Option (List ℕ)
value_of p = option_map (λ q. q.value) p

-- SDDecl (production 32) at the start; None: there is none
abbrev pub standalone_part : List ℕ → Option Part
standalone_part x = checked (codes "standalone") is_standalone x

-- EncodingDecl (production 80) at the start; None: there is none
abbrev pub encoding_part : List ℕ → Option Part
encoding_part x = checked (codes "encoding") is_encoding x

-- VersionInfo (production 24) at the start; None: there is none
abbrev pub version_part : List ℕ → Option Part
version_part x = checked (codes "version") is_version x

-- the length of the end of a declaration
unfoldable pub end_len : List ℕ → Option ℕ
end_len x = if starts_with nat_eq (drop (space_len x) x) (codes "?>") then Some (space_len x + 2) else None

-- the length of what follows the encoding
unfoldable pub rest_len : List ℕ → Option ℕ
rest_len x = option_map (λ k. size_of (standalone_part x) + k) (end_len (drop (size_of (standalone_part x)) x))

-- a declaration as it is written: its encoding, and its length
pub record Declared : Type 0 where
  pub encoding : Option (List ℕ)
  pub size : ℕ

-- a stored declaration as it is read; an encoding of None: it names no encoding
abbrev pub declaration_view : Declaration → Declared
declaration_view d = record { encoding = option_map (λ e. e.now) d.encoding; size = d.size }

-- a declaration whose version is the part v, which the octets x follow
abbrev pub from_version : ℕ → List ℕ → Option Declared
from_version n x =
    option_map (λ k. record { encoding = value_of (encoding_part x); size = 5 + n + (size_of (encoding_part x) + k) }) (rest_len
    (drop (size_of (encoding_part x)) x))

-- the declaration at the start
unfoldable pub declaration : List ℕ → Option Declared
declaration x =
    if starts_with nat_eq x (codes "<?xml")
    then option_and_then (λ v. from_version v.size (drop v.size (drop 5 x))) (version_part (drop 5 x))
    else None

-- ---- the grammar

-- a value between two quotation marks
abbrev pub IsQuoted : List ℕ → List ℕ → Type 0
IsQuoted x v = (q : ℕ) × ((q ≡ 34) ⊎ (q ≡ 39)) × (x ≡ q ∷ (v ++ q ∷ []))

-- S, a name, Eq and a quoted value (productions 24, 32 and 80)
pub record IsPart (w x v : List ℕ) : Type 0 where
  pub space : List ℕ
  pub equals : List ℕ
  pub quoted : List ℕ
  pub spaced : AreSpaces space
  pub some : 1 ≤ length space
  pub eq : IsEq equals
  pub value : IsQuoted quoted v
  pub whole : x ≡ space ++ (w ++ (equals ++ quoted))

-- a part that may be missing
abbrev pub IsPerhaps : List ℕ → (List ℕ → Bool) → List ℕ → Option (List ℕ) → Type 0
IsPerhaps w f x None = x ≡ []
IsPerhaps w f x (Some v) = IsPart w x v × (f v ≡ true)

-- an XML declaration (production 23)
pub record IsDeclaration (x : List ℕ) (encoding : Option (List ℕ)) : Type 0 where
  pub number : List ℕ
  pub version_info : List ℕ
  pub encoding_decl : List ℕ
  pub standalone : Option (List ℕ)
  pub standalone_decl : List ℕ
  pub space : List ℕ
  pub version : IsPart (codes "version") version_info number × (is_version number ≡ true)
  pub encoded : IsPerhaps (codes "encoding") is_encoding encoding_decl encoding
  pub alone : IsPerhaps (codes "standalone") is_standalone standalone_decl standalone
  pub spaced : AreSpaces space
  pub whole : x ≡ codes "<?xml" ++ (version_info ++ (encoding_decl ++ (standalone_decl ++ (space ++ codes "?>"))))

-- Each declaration is read, whatever follows it.
abbrev pub DeclarationsAreRead : Type 0
DeclarationsAreRead = (x rest : List ℕ) (encoding : Option (List ℕ)) → IsDeclaration x encoding
    → declaration (x ++ rest) ≡ Some (record { encoding = encoding; size = length x })

-- What is read as a declaration is one.
abbrev pub OnlyDeclarationsAreRead : Type 0
OnlyDeclarationsAreRead = (x : List ℕ) (d : Declared) → declaration x ≡ Some d
    → (y rest : List ℕ) × (x ≡ y ++ rest) × (d.size ≡ length y) × IsDeclaration y d.encoding
