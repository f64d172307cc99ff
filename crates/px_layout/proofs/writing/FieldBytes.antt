-- The bytes of fields: their entries, and their values.
use Rattle.std.proofs.Common.{◌≡◌, ◌<◌, ◌≤◌, ◌-◌, ◌*◌, ◌%◌, ℕ, nat_lt, List, [], ◌++◌, length, replicate, refl, sym, ◌∙◌, ap, arith}
use Rattle.std.proofs.Common.{append-nil, lt-ltb, ltb-true, ltb-false, inl, inr}
use Rattle.std.proofs.lemmas.Bool.{cond-true, cond-false, cases_Bool, le-ltb}
use Rattle.px_bytes.specs.declared.Order.TheVariants.{Most}
use Rattle.px_field.specs.Forms.{size}
use Rattle.px_field.specs.Values.{Value, form_in, encoded}
use Rattle.px_meaning.specs.Writable.{Item, Field, item_size}
use Rattle.px_layout.specs.Plans.{Plan}
use Rattle.px_layout.specs.Laid.{long_bytes, item_bytes}
use Rattle.px_layout.specs.Normal.{padded}
use Rattle.px_layout.specs.calls.Placed.{placed_bytes}
use Rattle.px_layout.specs.calls.Given.{head_bytes, entry_given, field_given, field_bytes}
use Rattle.px_layout.proofs.writing.Runs.{given_far, given_near}

-- ---- a size that a call returns

pub field_size : (v : Value) (n : ℕ) → n ≡ length v.elements * size (form_in v.kind) → n ≡ item_size (Field v)
unfolding item_size
field_size v n e = e

-- ---- entries

rest : Value → List ℕ
rest v = encoded Most v ++ replicate (4 - item_size (Field v)) 0

pub field_far : (at t n : ℕ) (v : Value) → n ≡ item_size (Field v) → 4 < n
    → head_bytes Most (t, Field v) ++ long_bytes Most at ≡ field_given at t v
unfolding rest
field_far at t n v e l =
    ap (λ (x : List ℕ). head_bytes Most (t, Field v) ++ x)
    (sym (cond-true (nat_lt 4 (item_size (Field v))) (long_bytes Most at) (rest v) (lt-ltb 4 (item_size (Field v)) (omega arith))))

pub field_near : (at t n : ℕ) (v : Value) → n ≡ item_size (Field v) → n ≡ length (encoded Most v) → n ≤ 4
    → head_bytes Most (t, Field v) ++ (encoded Most v ++ replicate (4 - length (encoded Most v)) 0) ≡ field_given at t v
unfolding rest
field_near at t n v e s l =
    ap (λ (k : ℕ). head_bytes Most (t, Field v) ++ (encoded Most v ++ replicate (4 - k) 0)) (sym s ∙ e)
    ∙ ap (λ (x : List ℕ). head_bytes Most (t, Field v) ++ x)
    (sym (cond-false (nat_lt 4 (item_size (Field v))) (long_bytes Most at) (rest v) (le-ltb 4 (item_size (Field v)) (omega arith))))

given_field : (plan : Plan) (at t : ℕ) (v : Value) → field_given at t v ≡ entry_given plan at (t, Field v)
unfolding item_bytes rest
given_field plan at t v =
    let head = head_bytes Most (t, Field v) in
    elim (cases_Bool (nat_lt 4 (item_size (Field v)))) [
      | inl q ↦ ap (λ (x : List ℕ). head ++ x) (cond-true (nat_lt 4 (item_size (Field v))) (long_bytes Most at) (rest v) q)
          ∙ given_far plan at (t, Field v) (item_size (Field v)) (head ++ long_bytes Most at) refl (ltb-true 4 (item_size (Field v)) q) refl
      | inr q ↦ ap (λ (x : List ℕ). head ++ x) (cond-false (nat_lt 4 (item_size (Field v))) (long_bytes Most at) (rest v) q)
          ∙ given_near plan at (t, Field v) (item_size (Field v)) head refl (ltb-false 4 (item_size (Field v)) q) refl
    ]

-- an entry that is a field
pub entry_of_field : (plan : Plan) (at : ℕ) (i : ℕ × Item) (v : Value) → i.1 ≡ Field v → field_given at i.0 v ≡ entry_given plan at i
entry_of_field plan at i v e = given_field plan at i.0 v ∙ ap (λ (x : Item). entry_given plan at (i.0, x)) (sym e)

-- ---- values

pub placed_field : (plan : Plan) (i : ℕ × Item) (v : Value) → i.1 ≡ Field v → field_bytes v ≡ placed_bytes plan i
unfolding item_bytes
placed_field plan i v e = ap (λ (x : Item). placed_bytes plan (i.0, x)) (sym e)

pub field_padded : (v : Value) (n : ℕ) → n ≡ length (encoded Most v) → encoded Most v ++ replicate (n % 2) 0 ≡ padded (encoded Most v)
field_padded v n e = ap (λ (k : ℕ). encoded Most v ++ replicate (k % 2) 0) e

pub field_placed : (v : Value) (n : ℕ) → n ≡ item_size (Field v) → 4 < n → padded (encoded Most v) ≡ field_bytes v
field_placed v n e l =
    sym (cond-true (nat_lt 4 (item_size (Field v))) (padded (encoded Most v)) [] (lt-ltb 4 (item_size (Field v)) (omega arith)))

pub field_inside : (v : Value) (n : ℕ) → n ≡ item_size (Field v) → n ≤ 4 → [] ≡ field_bytes v
field_inside v n e l =
    sym (cond-false (nat_lt 4 (item_size (Field v))) (padded (encoded Most v)) [] (le-ltb 4 (item_size (Field v)) (omega arith)))

-- eight bytes need no padding
pub field_eight : (v : Value) (n : ℕ) → n ≡ item_size (Field v) → n ≡ length (encoded Most v) → n ≡ 8 → encoded Most v ≡ field_bytes v
field_eight v n e s l =
    sym (append-nil (encoded Most v)) ∙ field_padded v 8 (sym l ∙ s) ∙ field_placed v n e (omega arith)
