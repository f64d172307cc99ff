-- How the reader's entries and values correspond to the definitions.
use Rattle.std.specs.Prelude.{◌≡◌, ◌≤◌, ◌<◌, ℕ, zero, suc, ◌+◌, ◌*◌, nat_le, Bool, true, false, if◌then◌else◌, Option, Some, None, List, []}
use Rattle.std.specs.Prelude.{◌∷◌, length, ⊤}
use Rattle.px_bytes.specs.declared.Order.{Order}
use Rattle.px_bytes.specs.declared.Cause.TheVariants.{Overlap, ValueOutside}
use Rattle.px_bytes.specs.Parts.{limit, part}
use Rattle.px_bytes.specs.Range.{Range, range}
use Rattle.px_bytes.specs.Checks.{Check, check}
use Rattle.px_field.specs.declared.Form.{Form}
use Rattle.px_field.specs.declared.Form.TheVariants.{Short, Long}
use Rattle.px_field.specs.Forms.{form_of, size}
use Rattle.px_field.specs.Values.{Value}
use Rattle.px_tree.specs.declared.entries.Head.{Head}
use Rattle.px_tree.specs.declared.entries.Shape.{Shape}
use Rattle.px_meaning.specs.declared.Dir.{Dir}
use Rattle.px_meaning.specs.Roles.{role}
use Rattle.px_meaning.specs.Entry.{Entry, entry, short, needs_place, offset}
use Rattle.px_tree.specs.Checks.{is_free_value}
use Rattle.px_meaning.specs.Tree.{Fields}
use Rattle.px_meaning.specs.calls.Places.{tags}
use Rattle.std.specs.List.{AllByRecursion}

-- the head of an entry
pub record Shows (o : Order) (h : Head) (e : Entry) : Type 0 where
  pub tag : h.tag ≡ e.tag
  pub code : h.code ≡ e.code
  pub count : h.count ≡ e.count
  pub offset_is : h.offset ≡ offset o e

-- the content of a head without the last four bytes
abbrev pub bare : Head → Entry
bare h = record { tag = h.tag; code = h.code; count = h.count; last = [] }

-- an entry with its type and role
pub record IsShape (o : Order) (d : Dir) (s : Shape) (e : Entry) : Type 0 where
  pub head : Shows o s.head e
  pub form : form_of e.code ≡ Some s.form
  pub role_is : s.role ≡ role d e.tag

-- SHORT or LONG
abbrev pub is_whole : Form → Bool
is_whole Short = true
is_whole Long = true
is_whole _ = false

-- a tag is above the one before
abbrev pub Follows : Option ℕ → ℕ → Type 0
Follows None t = ⊤
Follows (Some u) t = u < t

-- a value, if fields are kept
abbrev pub if_kept : Bool → Option Value → Option Value
if_kept keeps x = if keeps then x else None

-- the fields' tags are below each tag that follows
abbrev pub Precede : Option ℕ → Fields → Type 0
Precede u fields = (t : ℕ) → Follows u t → AllByRecursion (λ s. s < t) (tags fields)

-- the range of n bytes at x, if these have an offset
abbrev pub span : ℕ → ℕ → Option Range
span x n = if needs_place n then Some (range x n) else None

-- the checks of a value of n bytes, which is at x if it has an offset
abbrev pub span_checks : List ℕ → List Range → ℕ → ℕ → ℕ → List Check
span_checks b taken p x n =
    check ValueOutside p (if needs_place n then nat_le (x + n) (length b) else true)
    ∷ check Overlap p (is_free_value taken (span x n))
    ∷ []

-- the n entries from offset p on
abbrev pub entries_from : List ℕ → Order → ℕ → ℕ → List Entry
entries_from b o p zero = []
entries_from b o p (suc n) = entry o (part b p 12) ∷ entries_from b o (p + 12) n

-- a table of n entries is at a
pub record HasTable (b : List ℕ) (o : Order) (a n : ℕ) : Type 0 where
  pub count : n ≡ short o (part b a 2)
  pub some : 1 ≤ n
  pub inside : a + (2 + 12 * n + 4) ≤ length b

-- the entry at offset p has that head, a known type, and its value inside the block
pub record IsReadable (b : List ℕ) (o : Order) (p : ℕ) (h : Head) (f : Form) : Type 0 where
  pub bounded : length b ≤ limit
  pub inside : p + 12 ≤ length b
  pub shown : Shows o h (entry o (part b p 12))
  pub known : form_of h.code ≡ Some f
  pub whole : 4 < h.count * size f → h.offset + h.count * size f ≤ length b
