-- The values of properties (XMP part 1, 6.3), and the octets in which a normal packet has them.
-- Example: xmp:Rating with the text `5` is Flat, with a label of the namespace http://ns.adobe.com/xap/1.0/ and the local name Rating,
-- and a literal without a language.
use Rattle.std.specs.Prelude.{◌≡◌, ◌≢◌, ◌↔◌, ℕ, List, [], ◌∷◌, ◌++◌, codes, ⊤}
use Rattle.std.specs.List.{AllByRecursion}
use Rattle.px_xmp_text.specs.Texts.{normal_text}

-- what has a value: a property or a field of a structure, by its namespace and local name; or an item of an array
pub data Label : Type 0 where
  Property : (space local : List ℕ) → Label
  Item : Label

-- a simple value: a text with its language, which is empty if it has none; or a URI
pub data Simple : Type 0 where
  Literal : (language text : List ℕ) → Simple
  Uri : (uri : List ℕ) → Simple

-- a structure, or an array: unordered, ordered or alternative
pub data Compound : Type 0 where
  Structure : Compound
  Bag : Compound
  Seq : Compound
  Alt : Compound

-- properties, fields or items in a row: none; or one with a simple value, or one with a structure or an array of others; and those after it
pub data Content : Type 0 where
  End : Content
  Flat : Label → Simple → Content → Content
  Nested : Label → Compound → Content → Content → Content

-- ---- the octets of each, before some octets k

-- the start tag of a property or an item up to where its attributes may follow: `<p:local
-- xmlns:p="space"`, or `<rdf:li`
abbrev pub opening_tag : Label → List ℕ → List ℕ
opening_tag (Property space local) k = 60 ∷ 112 ∷ 58 ∷ (local ++ 32 ∷ (codes "xmlns:p=\"" ++ (space ++ 34 ∷ k)))
opening_tag Item k = 60 ∷ 114 ∷ (codes "df:li" ++ k)

-- the end tag of a property or an item: `</p:local>`, or `</rdf:li>`
abbrev pub end_tag : Label → List ℕ → List ℕ
end_tag (Property space local) k = 60 ∷ 47 ∷ 112 ∷ 58 ∷ (local ++ 62 ∷ k)
end_tag Item k = 60 ∷ 47 ∷ (codes "rdf:li>" ++ k)

-- what follows that start of a tag for a simple value: perhaps xml:lang, the text and the end tag;
-- or rdf:resource with a URI, and the end of the tag
abbrev pub simple : Label → Simple → List ℕ → List ℕ
simple l (Literal [] text) k = 62 ∷ (normal_text text ++ end_tag l k)
simple l (Literal (o ∷ language) text) k =
    32 ∷ 120 ∷ (codes "ml:lang=\"" ++ (o ∷ (language ++ 34 ∷ 62 ∷ (normal_text text ++ end_tag l k))))
simple l (Uri uri) k = 32 ∷ 114 ∷ 100 ∷ 102 ∷ 58 ∷ 114 ∷ (codes "esource=\"" ++ (normal_text uri ++ 34 ∷ 47 ∷ 62 ∷ k))

-- what follows that start of a tag before the contents: rdf:parseType="Resource" of a structure, or
-- the start tag of an array
abbrev pub compound_start : Compound → List ℕ → List ℕ
compound_start Structure k = 32 ∷ 114 ∷ 100 ∷ 102 ∷ 58 ∷ 112 ∷ (codes "arseType=\"Resource\">" ++ k)
compound_start Bag k = 62 ∷ 60 ∷ 114 ∷ 100 ∷ 102 ∷ 58 ∷ 66 ∷ (codes "ag>" ++ k)
compound_start Seq k = 62 ∷ 60 ∷ 114 ∷ 100 ∷ 102 ∷ 58 ∷ 83 ∷ (codes "eq>" ++ k)
compound_start Alt k = 62 ∷ 60 ∷ 114 ∷ 100 ∷ 102 ∷ 58 ∷ 65 ∷ (codes "lt>" ++ k)

-- the end tag of an array; a structure, which has no element of its own, has none
abbrev pub compound_end : Compound → List ℕ → List ℕ
compound_end Structure k = k
compound_end Bag k = codes "</rdf:Bag>" ++ k
compound_end Seq k = codes "</rdf:Seq>" ++ k
compound_end Alt k = codes "</rdf:Alt>" ++ k

-- properties, fields or items, one after another
abbrev pub written : Content → List ℕ → List ℕ
written End k = k
written (Flat l p rest) k = opening_tag l (simple l p (written rest k))
written (Nested l s inner rest) k = opening_tag l (compound_start s (written inner (compound_end s (end_tag l (written rest k)))))

-- the end tags of a normal packet
abbrev pub packet_end : List ℕ
packet_end = codes "</rdf:Description></rdf:RDF></x:xmpmeta>"

-- the normal packet of the properties of a picture
abbrev pub normal_packet : Content → List ℕ
normal_packet content =
    codes "<x:xmpmeta xmlns:x=\"adobe:ns:meta/\"><rdf:RDF xmlns:rdf=\"http://www.w3.org/1999/02/22-rdf-syntax-ns#\">"
    ++ (codes "<rdf:Description rdf:about=\"\">" ++ written content packet_end)

-- ---- what can be written: no space in a local name, and no quotation mark in a namespace, a language or a URI

-- the octet d is not in x
abbrev pub Without : ℕ → List ℕ → Type 0
Without d x = AllByRecursion (λ o. o ≢ d) x

-- no quotation mark, 34, is in the namespace, and no space, 32, in the local name
abbrev pub IsLabel : Label → Type 0
IsLabel (Property space local) = Without 34 space × Without 32 local
IsLabel Item = ⊤

-- no quotation mark is in a language or a URI
abbrev pub IsSimple : Simple → Type 0
IsSimple (Literal language text) = Without 34 language
IsSimple (Uri uri) = Without 34 uri

-- each label and each simple value can be written, also inside others
abbrev pub IsContent : Content → Type 0
IsContent End = ⊤
IsContent (Flat l p rest) = IsLabel l × IsSimple p × IsContent rest
IsContent (Nested l s inner rest) = IsLabel l × IsContent inner × IsContent rest

-- Content has one normal packet exactly if it is one.
abbrev pub PacketIsInjective : Type 0
PacketIsInjective = (a b : Content) → IsContent a → IsContent b → (normal_packet a ≡ normal_packet b) ↔ (a ≡ b)
