-- The bytes and the value of an entry.
use Rattle.std.proofs.Common.{◌≡◌, ℕ, ◌+◌, ◌*◌, ◌<◌, ◌≤◌, nat_lt, nat_le, true, false, List, Option, Some, None, is_some, map, refl, take}
use Rattle.std.proofs.Common.{drop, length, sym, ap, ap₂, ◌∙◌, arith, lt-ltb, leb-true}
use Rattle.std.proofs.lemmas.Bool.{cond-true, cond-false, false_from_ne_true, ltb-true}
use Rattle.std.proofs.lemmas.List.{take-take}
use Rattle.px_bytes.specs.declared.Order.{Order}
use Rattle.px_bytes.specs.Parts.{limit, part}
use Rattle.px_bytes.specs.lemmas.PartLaws.{part_part, length_part}
use Rattle.px_field.specs.declared.Element.{Element}
use Rattle.px_field.specs.declared.Form.{Form}
use Rattle.px_field.specs.Forms.{form_of, size}
use Rattle.px_field.specs.declared.Form.TheVariants.{Short, Long}
use Rattle.px_field.specs.declared.Kind.TheVariants.{Of, Whole}
use Rattle.px_field.specs.Values.{Value, elements, value_in, whole_in, widened, IsWhole}
use Rattle.px_field.specs.lemmas.ValueLaws.{value_in_elements, whole_in_elements}
use Rattle.px_meaning.specs.Iim.{Iim}
use Rattle.px_tree.specs.declared.entries.Head.{Head}
use Rattle.px_meaning.specs.Entry.{Entry, entry, raw, raw_size, has_raw, offset, entry_elements, widened_value, unless_record}
use Rattle.px_tree.specs.calls.Reading.{is_whole, Shows, IsReadable}
use Rattle.px_tree.proofs.reading.Shapes.{raw_size_is}

abbrev of_form : Form → List Element → Value
of_form f xs = record { kind = Of f; elements = xs }

abbrev as_whole : List Element → Value
as_whole xs = record { kind = Whole; elements = xs }

-- at a widened tag
widened_whole : (f : Form) (xs : List Element) → is_whole f ≡ true → widened_value f xs ≡ as_whole (map widened xs)
widened_whole Short xs w = refl
widened_whole Long xs w = refl
widened_whole f xs w = cc

pub widened_other : (f : Form) (xs : List Element) → is_whole f ≡ false → widened_value f xs ≡ of_form f xs
widened_other Short xs w = cc
widened_other Long xs w = cc
widened_other f xs w = refl

pub whole_form : (f : Form) → is_whole f ≡ true → IsWhole f
whole_form Short w = tt
whole_form Long w = tt
whole_form f w = cc

-- a value unless a record
pub unless_some : (x : Option Iim) (v : Value) → is_some x ≡ true → unless_record x v ≡ None
unless_some (Some i) v h = refl
unless_some None v h = cc

pub unless_none : (x : Option Iim) (v : Value) → is_some x ≡ false → unless_record x v ≡ Some v
unless_none None v h = refl
unless_none (Some i) v h = cc

module _ (b : List ℕ) (o : Order) (p : ℕ) (h : Head) (f : Form) (claimed : IsReadable b o p h f) where
  abbrev e : Entry
  e = entry o (part b p 12)

  size_is : raw_size e ≡ h.count * size f
  size_is = raw_size_is e f (ap form_of (sym claimed.shown.code) ∙ claimed.known) ∙ ap (λ (x : ℕ). x * size f) (sym claimed.shown.count)

  pub raw_placed : 4 < h.count * size f → raw b o e ≡ part b h.offset (h.count * size f)
  unfolding raw
  raw_placed l =
      let n = size_is in
      cond-true (nat_lt 4 (raw_size e)) _ _ (lt-ltb 4 (raw_size e) (omega arith))
      ∙ ap₂ (λ (x y : ℕ). part b x y) (sym claimed.shown.offset_is) n

  pub raw_inline : h.count * size f ≤ 4 → raw b o e ≡ part b (p + 8) (h.count * size f)
  unfolding raw entry
  raw_inline l =
      let n = size_is in
      cond-false (nat_lt 4 (raw_size e)) _ _ (false_from_ne_true _ (λ t. let k : 4 < raw_size e = ltb-true _ _ t in omega arith))
      ∙ ap (λ (k : ℕ). take k (part (part b p 12) 8 4)) n
      ∙ ap (take (h.count * size f)) (part_part b p 12 8 4 (omega arith))
      ∙ take-take (h.count * size f) 4 (drop (p + 8) b) l

  pub elements_claimed : (x : List ℕ) → x ≡ raw b o e → elements o f h.count x ≡ entry_elements b o e f
  unfolding entry_elements
  elements_claimed x k = ap₂ (λ (m : ℕ) (y : List ℕ). elements o f m y) claimed.shown.count k

  -- a part inside the block
  pub part_bounded : (x n : ℕ) (y : List ℕ) → y ≡ part b x n → x + n ≤ length b → (n ≡ length y) × (length y ≤ limit)
  part_bounded x n y is inside =
      let l : length y ≡ n = ap (λ (z : List ℕ). length z) is ∙ length_part b x n inside in
      let m = claimed.bounded in
      (sym l, omega arith)

  pub value_claimed : (x : List ℕ) → x ≡ raw b o e → h.count * size f ≡ length x
      → value_in o f x ≡ record { kind = Of f; elements = entry_elements b o e f }
  value_claimed x k n = value_in_elements o f h.count x n ∙ ap (λ (xs : List Element). of_form f xs) (elements_claimed x k)

  pub whole_claimed : (x : List ℕ) → x ≡ raw b o e → h.count * size f ≡ length x → is_whole f ≡ true
      → whole_in o f x ≡ widened_value f (entry_elements b o e f)
  whole_claimed x k n w = whole_in_elements o f h.count x n ∙ ap (λ (xs : List Element). as_whole (map widened xs)) (elements_claimed x k)
      ∙ sym (widened_whole f (entry_elements b o e f) w)

-- a value that the checks found inside
pub whole_from : (b : List ℕ) (o : Order) (p : ℕ) (h : Head) (f : Form) → Shows o h (entry o (part b p 12)) → form_of h.code ≡ Some f
    → has_raw b o (entry o (part b p 12)) ≡ true
    → 4 < h.count * size f → h.offset + h.count * size f ≤ length b
unfolding has_raw
whole_from b o p h f shown known w l =
    let e = entry o (part b p 12) in
    let n : raw_size e ≡ h.count * size f =
    raw_size_is e f (ap form_of (sym shown.code) ∙ known) ∙ ap (λ (x : ℕ). x * size f) (sym shown.count) in
    let placed : nat_lt 4 (raw_size e) ≡ true = lt-ltb 4 (raw_size e) (omega arith) in
    let k : offset o e + raw_size e ≤ length b =
    leb-true _ _ (sym (cond-true (nat_lt 4 (raw_size e)) (nat_le (offset o e + raw_size e) (length b)) true placed) ∙ w) in
    let at = shown.offset_is in
    omega arith
