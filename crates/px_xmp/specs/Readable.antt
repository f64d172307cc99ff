-- Content whose normal packet is a document with this meaning: its names, languages, texts and order are those of a packet that
-- this reader accepts. `IsContent` says the rest, which is about the octets of a normal packet alone.
use Rattle.std.specs.Prelude.{◌≡◌, ◌≤◌, ◌<◌, ◌⊎◌, ℕ, suc, true, false, codes, Some, ⊤, List, []}
use Rattle.std.specs.Str.{str_to_ascii_lowercase}
use Rattle.px_xmp_text.specs.Characters.{AreCharacters}
use Rattle.px_xmp_text.specs.Texts.{normal_text}
use Rattle.px_xmp_text.specs.Values.{Label, Property, Item, Simple, Literal, Uri, Compound, Structure, Content, End, Flat, Nested, Without}
use Rattle.px_xmp_marks.specs.Grammar.{IsNcName}
use Rattle.px_xmp_markup.specs.Nesting.{limit}
use Rattle.px_xmp_document.specs.Bindings.{is_usual_space, is_reserved}
use Rattle.px_xmp_forms.specs.Languages.{IsLanguage}
use Rattle.px_xmp_forms.specs.Spaces.{is_rare_space}
use Rattle.px_xmp_forms.specs.Uris.{IsAbsolute}
use Rattle.px_xmp_forms.specs.Entries.{Entry, row}
use Rattle.px_xmp.specs.Meaning.{label_in, Joins}

-- a namespace to which the prefix p can be bound (Namespaces, 3), as the value of an attribute without a reference; and one that is
-- not left to another reader
abbrev pub IsSpace : List ℕ → Type 0
IsSpace u = (is_usual_space u ≡ true) × Without 60 u × (is_reserved (codes "p") u ≡ false) × (is_rare_space u ≡ false)

-- a label of what is in a structure or an array: of a property a name that is a property's, and is the whole name again
abbrev pub IsReadableLabel : Compound → Label → Type 0
IsReadableLabel Structure (Property space local) =
    IsSpace space × IsNcName local × (label_in Structure (record { space = space; local = local }) ≡ Some (Property space local))
IsReadableLabel Structure Item = ⊥
IsReadableLabel array (Property space local) = ⊥
IsReadableLabel array Item = ⊤

-- a text of characters that XML allows, with a language in small letters or without; or a URI, as a normal form has it
abbrev pub IsReadableSimple : Simple → Type 0
IsReadableSimple (Literal language text) =
    ((language ≡ []) ⊎ IsLanguage language) × (str_to_ascii_lowercase language ≡ language) × AreCharacters text
IsReadableSimple (Uri uri) = IsAbsolute (normal_text uri)

-- content is what entries in order are
abbrev pub IsOrdered : Compound → Content → Type 0
IsOrdered s c = (es : List Entry) × (c ≡ row es) × Joins s es es

-- what is in a structure or an array
abbrev pub AreReadable : Compound → Content → Type 0
AreReadable s End = ⊤
AreReadable s (Flat l p rest) = IsReadableLabel s l × IsReadableSimple p × AreReadable s rest
AreReadable s (Nested l t inner rest) = IsReadableLabel s l × IsOrdered t inner × AreReadable t inner × AreReadable s rest

-- how many elements are around what is in a structure or an array, if d are around its own: an array has an element more (XMP part
-- 1, 7.6 and 7.7)
abbrev pub inner_depth : Compound → ℕ → ℕ
inner_depth Structure d = suc d
inner_depth array d = suc (suc d)

-- no element of content inside d elements is inside 100 others, a limit of px_xmp_markup
abbrev pub IsShallow : ℕ → Content → Type 0
IsShallow d End = ⊤
IsShallow d (Flat l p rest) = (d < limit) × IsShallow d rest
IsShallow d (Nested l t inner rest) = (inner_depth t d ≤ limit) × IsShallow (inner_depth t d) inner × IsShallow d rest

-- the properties of a picture, inside x:xmpmeta, rdf:RDF and rdf:Description
abbrev pub IsReadable : Content → Type 0
IsReadable c = IsOrdered Structure c × AreReadable Structure c × IsShallow 3 c
