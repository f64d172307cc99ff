-- A document: its characters, its XML declaration, and its root. XML 1.0, 2.1, 2.2, 2.8 and 4.3.3.
use Rattle.std.specs.Prelude.{◌≡◌, ◌≢◌, ◌==◌, ◌&&◌, ◌||◌, ◌⊎◌, ℕ, Bool, true, false, nat_eq, if◌then◌else◌}
use Rattle.std.specs.Prelude.{Option, Some, None, List, [], ◌∷◌, ◌++◌, drop}
use Rattle.std.specs.List.{starts_with}
use Rattle.px_xmp_text.specs.Characters.{AreCharacters}
use Rattle.px_xmp_marks.specs.Declarations.{IsDeclaration}
use Rattle.px_xmp_document.specs.Elements.{AreElements}

-- `UTF`, in any case
abbrev pub is_utf : ℕ → ℕ → ℕ → Bool
is_utf u t f = ((u == 85) || (u == 117)) && ((t == 84) || (t == 116)) && ((f == 70) || (f == 102))

-- `UTF-8`, in any case
abbrev pub is_utf8 : List ℕ → Bool
is_utf8 [] = false
is_utf8 (u ∷ []) = false
is_utf8 (u ∷ t ∷ []) = false
is_utf8 (u ∷ t ∷ f ∷ []) = false
is_utf8 (u ∷ t ∷ f ∷ h ∷ []) = false
is_utf8 (u ∷ t ∷ f ∷ h ∷ e ∷ []) = is_utf u t f && (h == 45) && (e == 56)
is_utf8 (u ∷ t ∷ f ∷ h ∷ e ∷ o ∷ more) = false

-- no encoding is named, or UTF-8
abbrev pub is_read : Option (List ℕ) → Bool
is_read None = true
is_read (Some e) = is_utf8 e

-- no XML declaration is at the start
abbrev pub NoDeclaration : List ℕ → Type 0
NoDeclaration x = (d y : List ℕ) (e : Option (List ℕ)) → IsDeclaration d e → x ≢ d ++ y

-- x is an XML declaration d (production 23), which names the encoding e or none, and then y; or d is empty, as there is no declaration
abbrev pub IsSplit : List ℕ → List ℕ → Option (List ℕ) → List ℕ → Type 0
IsSplit x d e y = (x ≡ d ++ y) × (IsDeclaration d e ⊎ ((d ≡ []) × (e ≡ None) × NoDeclaration x))

-- a document (productions 1, 2 and 22) without a document type, and with namespaces
pub record IsDocument (x : List ℕ) : Type 0 where
  pub declaration : List ℕ
  pub encoding : Option (List ℕ)
  pub tree : List ℕ
  pub characters : AreCharacters x
  pub parts : IsSplit x declaration encoding tree
  pub encoded : is_read encoding ≡ true
  pub elements : AreElements tree

-- the length of the byte order mark at the start, which is no part of the document (4.3.3)
abbrev pub order_mark_len : List ℕ → ℕ
order_mark_len x = if starts_with nat_eq x (239 ∷ 187 ∷ 191 ∷ []) then 3 else 0

-- a document with a byte order mark, or without
abbrev pub IsFile : List ℕ → Type 0
IsFile x = IsDocument (drop (order_mark_len x) x)
