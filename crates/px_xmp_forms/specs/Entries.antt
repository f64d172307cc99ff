-- Properties and members with their values, one after another, and their order.
use Rattle.std.specs.Prelude.{◌≡◌, ◌≢◌, ◌<◌, ◌≤◌, ℕ, List, [], ◌∷◌, length, slice_index_or, max}
use Rattle.std.specs.List.Sorted.{IsPermutation, IsSorted}
use Rattle.std.specs.Cmp.Lexicographic.{slice_cmp}
use Rattle.std.specs.Ordering.{nat_cmp}
use Rattle.px_xmp_text.specs.Values.{Label, Simple, Compound, Content, End, Flat, Nested, IsContent, written}
use Rattle.px_xmp_forms.specs.Forms.{most, HaveShortLanguages}

-- a value: a text or a URI; or a structure or an array of others
pub data Value : Type 0 where
  Plain : Simple → Value
  Inside : Compound → Content → Value

-- a property or a member with its value, and the byte offset of its tag
pub record Entry : Type 0 where
  pub label : Label
  pub value : Value
  pub place : ℕ

-- a value with its label, before others
abbrev pub before : Label → Value → Content → Content
before l (Plain p) rest = Flat l p rest
before l (Inside s inner) rest = Nested l s inner rest

-- a value with its label can be written, and neither it nor a language in it is too long
abbrev pub ValueFits : Label → Value → Type 0
ValueFits l v = IsContent (before l v End) × (length (written (before l v End) []) ≤ most) × HaveShortLanguages (before l v End)

-- entries in a row
abbrev pub row : List Entry → Content
row [] = End
row (e ∷ es) = before e.label e.value (row es)

-- the octets of an entry
abbrev pub entry_octets : Entry → List ℕ
entry_octets e = written (before e.label e.value End) []

-- the same entries, in the order of their octets
pub record Sorts (es fs : List Entry) : Type 0 where
  pub same : IsPermutation es fs
  pub order : IsSorted (λ a b. slice_cmp nat_cmp (entry_octets a) (entry_octets b)) fs

-- two of the entries have one label, and the later of their tags is at this place
pub record IsRepeated (es : List Entry) (place : ℕ) : Type 0 where
  pub first : ℕ
  pub second : ℕ
  pub two : first ≢ second
  pub within : (first < length es) × (second < length es)
  pub label : (d : Entry) → (slice_index_or es first d).label ≡ (slice_index_or es second d).label
  pub place_is : (d : Entry) → place ≡ max (slice_index_or es first d).place (slice_index_or es second d).place

-- no two of the entries have one label
abbrev pub AreDistinct : List Entry → Type 0
AreDistinct es = (place : ℕ) → IsRepeated es place → ⊥
