-- The grammar of names, attributes and tags, apart from how they are read. XML 1.0, 2.3 and 3.1; Namespaces in XML 1.0, 3 and 4.
use Rattle.std.specs.Prelude.{◌≡◌, ◌≢◌, ◌≤◌, ◌⊎◌, ℕ, Bool, true, None, if◌then◌else◌, List, [], ◌∷◌, ◌++◌, length, codes}
use Rattle.std.specs.List.{AllByRecursion}
use Rattle.px_xmp_text.specs.Texts.{first_fault}
use Rattle.px_xmp_text.specs.declared.pieces.TextKind.TheVariants.{AttributeValue}
use Rattle.px_xmp_marks.specs.Reading.{is_space, is_name_start, is_name_char, Named, Attr}

-- S? (production 3)
abbrev pub AreSpaces : List ℕ → Type 0
AreSpaces x = AllByRecursion (λ o. is_space o ≡ true) x

-- a name without a colon (Namespaces, production 4), of ASCII
pub record IsNcName (x : List ℕ) : Type 0 where
  pub first : ℕ
  pub others : List ℕ
  pub whole : x ≡ first ∷ others
  pub begins : is_name_start first ≡ true
  pub contains : AllByRecursion (λ o. is_name_char o ≡ true) others

-- a name: with a prefix and a colon, or without (Namespaces, productions 7 to 11)
abbrev pub IsName : List ℕ → Named → Type 0
IsName x n =
    (IsNcName x × (n ≡ record { prefix = []; local = x; size = length x }))
    ⊎ ((p l : List ℕ) × IsNcName p × IsNcName l × (x ≡ p ++ 58 ∷ l) × (n ≡ record { prefix = p; local = l; size = length x }))

-- an equals sign (production 25)
abbrev pub IsEq : List ℕ → Type 0
IsEq x = (s t : List ℕ) × AreSpaces s × AreSpaces t × (x ≡ s ++ 61 ∷ t)

-- a quoted value (production 10), whose references are well-formed
pub record IsAttValue (x v : List ℕ) : Type 0 where
  pub quote : ℕ
  pub is_quote : (quote ≡ 34) ⊎ (quote ≡ 39)
  pub inside : AllByRecursion (λ o. (o ≢ quote) × (o ≢ 60)) v
  pub references : first_fault AttributeValue v ≡ None
  pub whole : x ≡ quote ∷ (v ++ quote ∷ [])

-- an attribute (production 41)
pub record IsAttribute (x : List ℕ) (a : Attr) : Type 0 where
  pub name_octets : List ℕ
  pub equals : List ℕ
  pub quoted : List ℕ
  pub name : IsName name_octets a.name
  pub eq : IsEq equals
  pub value : IsAttValue quoted a.value
  pub whole : x ≡ name_octets ++ (equals ++ quoted)
  pub size : a.size ≡ length x

-- (S Attribute)* S?
abbrev pub AreAttributes : List ℕ → List Attr → Type 0
AreAttributes x [] = AreSpaces x
AreAttributes x (a ∷ more) =
    (s y rest : List ℕ) × AreSpaces s × (1 ≤ length s) × IsAttribute y a × AreAttributes rest more × (x ≡ s ++ (y ++ rest))

-- the end of a tag, of an empty element or not
abbrev pub closing : Bool → List ℕ
closing empty = if empty then codes "/>" else codes ">"

-- a start tag, or the tag of an empty element (productions 40 and 44)
abbrev pub IsStartTag : List ℕ → Named → List Attr → Bool → Type 0
IsStartTag x n attributes empty =
    (y z : List ℕ) × IsName y n × AreAttributes z attributes × (x ≡ 60 ∷ (y ++ (z ++ closing empty)))

-- an end tag (production 42)
abbrev pub IsEndTag : List ℕ → Named → Type 0
IsEndTag x n = (y s : List ℕ) × IsName y n × AreSpaces s × (x ≡ 60 ∷ 47 ∷ (y ++ (s ++ 62 ∷ [])))
