-- The laws of attributes and tags: what is read is exactly what the grammar has.
use Rattle.std.specs.Prelude.{◌≡◌, ℕ, Bool, Some, option_map, MatchOption, List, [], ◌∷◌, ◌++◌, length}
use Rattle.px_xmp_marks.specs.Reading.{Named, Attr, attribute, attributes_of, next_attribute, Start, start_tag, End, end_tag}
use Rattle.px_xmp_marks.specs.Grammar.{IsAttribute, IsStartTag, IsEndTag}

-- Each attribute is read, whatever follows it.
abbrev pub AttributesAreRead : Type 0
AttributesAreRead = (x rest : List ℕ) (a : Attr) → IsAttribute x a → attribute (x ++ rest) ≡ Some a

-- What is read as an attribute is one.
abbrev pub OnlyAttributesAreRead : Type 0
OnlyAttributesAreRead = (x : List ℕ) (a : Attr) → attribute x ≡ Some a → (y rest : List ℕ) × (x ≡ y ++ rest) × IsAttribute y a

-- the start tag t has these attributes
abbrev pub HasAttributes : Start → List Attr → Type 0
HasAttributes t attributes = option_map (λ r. r.0) (attributes_of t.rest) ≡ Some attributes

-- Of the attributes of a tag the first is read, and what follows it has the others; None is read if there are none.
abbrev pub AttributesInOrder : Type 0
AttributesInOrder = (x : List ℕ) (attributes : List Attr) → option_map (λ r. r.0) (attributes_of x) ≡ Some attributes
    → MatchOption (next_attribute x) (attributes ≡ []) (λ n. (more : List Attr) × (attributes ≡ n.attribute ∷ more)
    × (option_map (λ r. r.0) (attributes_of n.rest) ≡ Some more))

-- Each start tag is read, whatever follows it.
abbrev pub StartTagsAreRead : Type 0
StartTagsAreRead = (x rest : List ℕ) (n : Named) (attributes : List Attr) (empty : Bool) → IsStartTag x n attributes empty
    → (t : Start) × (start_tag (x ++ rest) ≡ Some t) × (t.name ≡ n) × HasAttributes t attributes × (t.is_empty ≡ empty)
    × (t.size ≡ length x)

-- What is read as a start tag is one.
abbrev pub OnlyStartTagsAreRead : Type 0
OnlyStartTagsAreRead = (x : List ℕ) (t : Start) → start_tag x ≡ Some t
    → (y rest : List ℕ) × (attributes : List Attr) × (x ≡ y ++ rest) × (t.size ≡ length y) × HasAttributes t attributes
    × IsStartTag y t.name attributes t.is_empty

-- Each end tag is read, whatever follows it.
abbrev pub EndTagsAreRead : Type 0
EndTagsAreRead = (x rest : List ℕ) (n : Named) → IsEndTag x n → end_tag (x ++ rest) ≡ Some (record { name = n; size = length x })

-- What is read as an end tag is one.
abbrev pub OnlyEndTagsAreRead : Type 0
OnlyEndTagsAreRead = (x : List ℕ) (t : End) → end_tag x ≡ Some t
    → (y rest : List ℕ) × (x ≡ y ++ rest) × (t.size ≡ length y) × IsEndTag y t.name
