-- What is written is the normal form of content, as px_xmp_text defines it.
use Rattle.std.specs.Prelude.{◌≡◌, ◌≢◌, ◌≤◌, ◌+◌, ◌++◌, ◌==◌, ◌||◌, ◌&&◌, ℕ, Bool, true, false, List, [], ◌∷◌, codes, length, Some, ⊤}
use Rattle.px_bytes.specs.Parts.{limit}
use Rattle.px_xmp_text.specs.Texts.{text_of, normal_text}
use Rattle.px_xmp_text.specs.declared.pieces.TextKind.{TextKind}
use Rattle.px_xmp_text.specs.declared.pieces.TextKind.TheVariants.{AttributeValue}
use Rattle.px_xmp_text.specs.Values.{Simple, Literal, Uri, Content, End, Flat, Nested, IsContent, written, normal_packet}
use Rattle.px_xmp_forms.specs.Languages.{language_limit}

-- the most octets of a form that is not finished, a limit of this reader
abbrev pub most : ℕ
most = 33554432

-- octets have a text, whose normal form may follow n octets of a form
abbrev pub TextFits : TextKind → List ℕ → ℕ → Type 0
TextFits kind x n = (t : List ℕ) × (text_of kind x ≡ Some t) × (length x ≤ limit) × (n + length (normal_text t) ≤ most)

-- the language of a simple value has at most 100 octets, a limit of this reader; a URI has none
abbrev pub HasShortLanguage : Simple → Type 0
HasShortLanguage (Literal language text) = length language ≤ language_limit
HasShortLanguage (Uri uri) = ⊤

-- the language of each text in these properties or items, also inside others, has at most 100
-- octets
abbrev pub HaveShortLanguages : Content → Type 0
HaveShortLanguages End = ⊤
HaveShortLanguages (Flat l p rest) = HasShortLanguage p × HaveShortLanguages rest
HaveShortLanguages (Nested l s inner rest) = HaveShortLanguages inner × HaveShortLanguages rest

-- these octets are the normal form of properties or members
abbrev pub IsForm : List ℕ → Type 0
IsForm x = (c : Content) × IsContent c × (x ≡ written c [])

-- these octets are the normal form of a text
abbrev pub IsTextForm : List ℕ → Type 0
IsTextForm x = (t : List ℕ) × (x ≡ normal_text t)

-- these octets are a normal packet
abbrev pub IsNormal : List ℕ → Type 0
IsNormal x = (c : Content) × IsContent c × (x ≡ normal_packet c)

-- whether an octet is among others
abbrev pub has : ℕ → List ℕ → Bool
has d [] = false
has d (o ∷ x) = (o == d) || has d x

-- a language in its start tag, and the end of the tag
abbrev pub language_octets : List ℕ → List ℕ
language_octets [] = 62 ∷ []
language_octets (o ∷ y) = 32 ∷ 120 ∷ (codes "ml:lang=\"" ++ (o ∷ (y ++ 34 ∷ 62 ∷ [])))

-- white space (XML 1.0, 2.3)
abbrev pub is_space : ℕ → Bool
is_space o = (o == 32) || (o == 9) || (o == 10) || (o == 13)

-- a text is white space, or nothing
abbrev pub is_white : List ℕ → Bool
is_white [] = true
is_white (o ∷ t) = is_space o && is_white t

-- two values of attributes have one text, or both have none; or they do not
abbrev pub IsSameText : List ℕ → List ℕ → Bool → Type 0
IsSameText a b true = text_of AttributeValue a ≡ text_of AttributeValue b
IsSameText a b false = text_of AttributeValue a ≢ text_of AttributeValue b
