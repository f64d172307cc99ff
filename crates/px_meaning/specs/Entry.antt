-- Tables, entries and their values. TIFF 6.0 section 2, "Image File Directory", "IFD Entry", "Sort Order", "Types" and
-- "Value/Offset".
-- Example, most significant byte first: 01 12 00 03 00 00 00 01 00 01 00 00 is the entry with tag 0112 (Orientation), type 3
-- (SHORT) and count 1. Its value has two bytes, so it is in the entry: 00 01, the first of the last four. A table with this
-- entry alone is 00 01, these twelve bytes, and 00 00 00 00, since no directory follows: 18 bytes.
use Rattle.std.specs.Prelude.{◌≡◌, ℕ, ◌+◌, ◌*◌, ◌<◌, ◌==◌, nat_lt, nat_le, Bool, true, false, if◌then◌else◌, ◌&&◌, ◌||◌, Option, Some, None}
use Rattle.std.specs.Prelude.{is_some, option_map, option_and_then, List, [], ◌∷◌, length, map, take, drop, filter_map, ⊤}
use Rattle.std.specs.List.{AllByRecursion}
use Rattle.px_bytes.specs.declared.Order.{Order}
use Rattle.px_bytes.specs.Numbers.{number}
use Rattle.px_bytes.specs.Parts.{part, pieces}
use Rattle.px_field.specs.declared.Form.{Form}
use Rattle.px_field.specs.declared.Form.TheVariants.{Short, Long, Byte, Undefined}
use Rattle.px_field.specs.declared.Kind.TheVariants.{Of, Whole}
use Rattle.px_field.specs.declared.Element.{Element}
use Rattle.px_field.specs.Forms.{form_of, size}
use Rattle.px_field.specs.Values.{Value, elements, widened}
use Rattle.px_meaning.specs.Iim.{Iim, iim_of}
use Rattle.px_meaning.specs.declared.roles.Dir.{Dir}
use Rattle.px_meaning.specs.declared.roles.Role.{Role}
use Rattle.px_meaning.specs.declared.roles.Role.TheVariants.{Plain, Widened, Forbidden, Record, JpegOffset, JpegLength, StripOffsets}
use Rattle.px_meaning.specs.declared.roles.Role.TheVariants.{StripLengths, To}
use Rattle.px_meaning.specs.Roles.{role}
use Rattle.px_meaning.specs.Tree.{Fields}

-- a number of two bytes, and one of four
abbrev pub short : Order → List ℕ → ℕ
short o x = number o 2 x

-- a number of four bytes: a LONG of TIFF
abbrev pub long : Order → List ℕ → ℕ
long o x = number o 4 x

-- ---- tables

-- The content of an entry's twelve bytes: tag, type, count, and the last four bytes.
pub record Entry : Type 0 where
  pub tag : ℕ
  pub code : ℕ
  pub count : ℕ
  pub last : List ℕ

-- the entry that twelve bytes encode
unfoldable pub entry : Order → List ℕ → Entry
entry o x = record { tag = short o (part x 0 2); code = short o (part x 2 2); count = long o (part x 4 4); last = part x 8 4 }

-- the bytes of a table of n entries: their number, the entries, the offset of the next directory
abbrev pub table_size : ℕ → ℕ
table_size n = 2 + 12 * n + 4

-- a table at a: it has an entry, and lies within the block
unfoldable pub has_table : List ℕ → Order → ℕ → Bool
has_table b o a = let n = short o (part b a 2) in nat_le 1 n && nat_le (a + table_size n) (length b)

-- the bytes of the table at a; none if the block doesn't contain it
unfoldable pub table : List ℕ → Order → ℕ → List ℕ
table b o a = if has_table b o a then part b a (table_size (short o (part b a 2))) else []

-- the content of a table's bytes: the entries in order, and the offset of the next directory
unfoldable pub entries : Order → List ℕ → List Entry
entries o t = map (entry o) (pieces (short o (take 2 t)) 12 (drop 2 t))

-- the last four bytes of a table: the offset of the next directory, or 0 if none follows
unfoldable pub next : Order → List ℕ → ℕ
next o t = long o (drop (2 + 12 * short o (take 2 t)) t)

-- ---- the raw bytes of an entry

-- the bytes of n elements of a type, or 0 of an unknown type
abbrev pub sized : Option Form → ℕ → ℕ
sized None n = 0
sized (Some f) n = n * size f

-- count times size, in bytes
unfoldable pub raw_size : Entry → ℕ
raw_size e = sized (form_of e.code) e.count

-- more than four bytes are at an offset
abbrev pub needs_place : ℕ → Bool
needs_place n = nat_lt 4 n

-- the value of the entry is at an offset, not in the entry
abbrev pub is_placed : Entry → Bool
is_placed e = needs_place (raw_size e)

-- the last four bytes as an offset
abbrev pub offset : Order → Entry → ℕ
offset o e = long o e.last

-- the bytes of the value: the first of the last field, or those at its offset
unfoldable pub raw : List ℕ → Order → Entry → List ℕ
raw b o e = if is_placed e then part b (offset o e) (raw_size e) else take (raw_size e) e.last

-- the bytes of the value lie inside the block; those in the entry itself always do
unfoldable pub has_raw : List ℕ → Order → Entry → Bool
has_raw b o e = if is_placed e then nat_le (offset o e + raw_size e) (length b) else true

-- ---- the conditions for an entry in a directory

-- one LONG, of type 4: the form of a pointer
abbrev pub is_one_long : Entry → Bool
is_one_long e = (e.code == 4) && (e.count == 1)

-- any number of SHORT, of type 3, or of LONG, of type 4
abbrev pub is_short_or_long : Entry → Bool
is_short_or_long e = (e.code == 3) || (e.code == 4)

-- the type and count that a role requires; the other five require none
abbrev pub has_form : Role → Entry → Bool
has_form (To d) e = is_one_long e
has_form JpegOffset e = is_one_long e
has_form JpegLength e = is_one_long e
has_form StripOffsets e = is_short_or_long e
has_form StripLengths e = is_short_or_long e
has_form _ e = true

-- every role but one
abbrev pub is_allowed : Role → Bool
is_allowed Forbidden = false
is_allowed _ = true

-- a valid entry: of a known type, allowed here, with the required type and count, and its value inside the block
pub record IsEntry (b : List ℕ) (o : Order) (d : Dir) (e : Entry) : Type 0 where
  pub known : is_some (form_of e.code) ≡ true
  pub allowed : is_allowed (role d e.tag) ≡ true
  pub formed : has_form (role d e.tag) e ≡ true
  pub inside : has_raw b o e ≡ true

-- each number of the list is less than each later one
abbrev pub Rising : List ℕ → Type 0
Rising [] = ⊤
Rising (t ∷ ts) = AllByRecursion (λ u. t < u) ts × Rising ts

-- a valid directory at a: tags strictly ascend, and each entry is valid
pub record IsDirectory (b : List ℕ) (o : Order) (d : Dir) (a : ℕ) : Type 0 where
  pub there : has_table b o a ≡ true
  pub rising : Rising (map (λ e. e.tag) (entries o (table b o a)))
  pub each : AllByRecursion (IsEntry b o d) (entries o (table b o a))

-- ---- the meaning of the entries

-- the elements of an entry
unfoldable pub entry_elements : List ℕ → Order → Entry → Form → List Element
entry_elements b o e f = elements o f e.count (raw b o e)

-- SHORT and LONG are one kind at a widened tag, and all other types are unchanged
abbrev pub widened_value : Form → List Element → Value
widened_value Short xs = record { kind = Whole; elements = map widened xs }
widened_value Long xs = record { kind = Whole; elements = map widened xs }
widened_value f xs = record { kind = Of f; elements = xs }

-- the record at its tag, if the type is BYTE or UNDEFINED and the bytes are a record
abbrev pub record_in : Form → List ℕ → Option Iim
record_in Byte x = iim_of x
record_in Undefined x = iim_of x
record_in _ x = None

-- the value is a field only if its bytes are no record
abbrev pub unless_record : Option Iim → Value → Option Value
unless_record None v = Some v
unless_record (Some i) v = None

-- the value of a field; pointers, thumbnail parts and a record are no fields
abbrev pub field_value_in : List ℕ → Order → Entry → Role → Form → Option Value
field_value_in b o e Plain f = Some (record { kind = Of f; elements = entry_elements b o e f })
field_value_in b o e Widened f = Some (widened_value f (entry_elements b o e f))
field_value_in b o e Record f = unless_record (record_in f (raw b o e)) (record { kind = Of f; elements = entry_elements b o e f })
field_value_in b o e _ f = None

-- the tag and value of an entry, if it is a field: its type is known, and its role is that of a
-- field
unfoldable pub field : List ℕ → Order → Dir → Entry → Option (ℕ × Value)
field b o d e = option_map (λ v. (e.tag, v)) (option_and_then (field_value_in b o e (role d e.tag)) (form_of e.code))

-- the fields of a directory: the pairs of tag and value
unfoldable pub fields : List ℕ → Order → Dir → ℕ → Fields
fields b o d a = filter_map (field b o d) (entries o (table b o a))
