-- The laws of the definitions.
use Rattle.std.specs.Prelude.{◌≡◌, ℕ, ◌==◌, if◌then◌else◌, ◌↔◌, List, map, flat_map, None, Some, Contains}
use Rattle.std.specs.List.{AllByRecursion}
use Rattle.px_bytes.specs.declared.Order.{Order}
use Rattle.px_bytes.specs.Numbers.{AreBytes}
use Rattle.px_field.specs.declared.Form.{Form}
use Rattle.px_field.specs.declared.Form.TheVariants.{Short, Long}
use Rattle.px_field.specs.declared.Element.{Element}
use Rattle.px_field.specs.declared.Kind.TheVariants.{Of, Whole}
use Rattle.px_field.specs.Forms.{form_of}
use Rattle.px_field.specs.Values.{Value, IsOf, encode, widened}
use Rattle.px_meaning.specs.declared.roles.Dir.{Dir}
use Rattle.px_meaning.specs.declared.roles.Role.{Role}
use Rattle.px_meaning.specs.declared.roles.Role.TheVariants.{Plain, Widened, Record}
use Rattle.px_meaning.specs.Roles.{role, at_tag}
use Rattle.px_meaning.specs.Tree.{Fields, Meaning}
use Rattle.px_meaning.specs.Entry.{Entry, raw, record_in, IsDirectory, fields}
use Rattle.px_meaning.specs.Directory.{entries_at}
use Rattle.px_meaning.specs.Says.{SaysExif}
use Rattle.px_meaning.specs.Writable.{IsWritable, put}

-- A block has at most one meaning.
abbrev pub OneMeaning : Type 0
OneMeaning = (b : List ℕ) (s t : Meaning) → SaysExif b s → SaysExif b t → s ≡ t

-- The meaning of a block of bytes can be written.
abbrev pub MeaningIsWritable : Type 0
MeaningIsWritable = (b : List ℕ) (m : Meaning) → AreBytes b → SaysExif b m → IsWritable m

-- After a field is added it is found at its tag, and nothing else has changed.
abbrev pub GetAfterPut : Type 0
GetAfterPut = (fields : Fields) (t u : ℕ) (v : Value) → at_tag t fields ≡ None →
    at_tag u (put t v fields) ≡ (if t == u then Some v else at_tag u fields)

-- ---- fields, by definitions of their own

-- the elements of a type that encode to the bytes, in their order
pub record Encodes (o : Order) (f : Form) (xs : List Element) (bytes : List ℕ) : Type 0 where
  pub each : AllByRecursion (IsOf f) xs
  pub encoded_is : flat_map (encode o) xs ≡ bytes

-- v is of that type, and its elements are those that the raw bytes of e encode
pub record IsTyped (b : List ℕ) (o : Order) (e : Entry) (f : Form) (v : Value) : Type 0 where
  pub kind : v.kind ≡ Of f
  pub encode : Encodes o f v.elements (raw b o e)

-- v is a list of whole numbers, those of SHORT or LONG that the raw bytes of e encode
pub record IsWhole (b : List ℕ) (o : Order) (e : Entry) (f : Form) (v : Value) : Type 0 where
  pub kind : v.kind ≡ Whole
  pub numbers : List Element
  pub encode : Encodes o f numbers (raw b o e)
  pub widened_is : v.elements ≡ map widened numbers

-- the value of a widened entry: types other than SHORT and LONG are unchanged
abbrev pub IsWidened : List ℕ → Order → Entry → Form → Value → Type 0
IsWidened b o e Short v = IsWhole b o e Short v
IsWidened b o e Long v = IsWhole b o e Long v
IsWidened b o e f v = IsTyped b o e f v

-- v is the value of an entry by its role; a record that is one has no value, nor has a pointer or a part of the thumbnail
abbrev pub IsValueAt : List ℕ → Order → Entry → Role → Form → Value → Type 0
IsValueAt b o e Plain f v = IsTyped b o e f v
IsValueAt b o e Widened f v = IsWidened b o e f v
IsValueAt b o e Record f v = (record_in f (raw b o e) ≡ None) × IsTyped b o e f v
IsValueAt b o e _ f v = ⊥

-- an entry of the directory has that tag and means that value
abbrev pub Means : List ℕ → Order → Dir → ℕ → ℕ → Value → Type 0
Means b o d a t v =
    (e : Entry) × (f : Form) × Contains (entries_at b o a) e × (e.tag ≡ t) × (form_of e.code ≡ Some f) × IsValueAt b o e (role d t) f v

-- A pair of tag and value is a field of a directory exactly if it has an entry with that tag and that value.
abbrev pub FieldsArePairs : Type 0
FieldsArePairs = (b : List ℕ) (o : Order) (d : Dir) (a t : ℕ) (v : Value) → AreBytes b → IsDirectory b o d a →
    (Contains (fields b o d a) (t, v) ↔ Means b o d a t v)
