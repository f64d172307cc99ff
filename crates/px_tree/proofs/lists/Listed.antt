-- Lists of numbers, and facts about an entry that was found.
use Rattle.std.proofs.Common.{◌≡◌, ◌≤◌, ℕ, ◌==◌, ◌⊎◌, true, Bool, Option, Some, None, List, [], ◌∷◌, map, length, inl, inr, refl, sym, ap}
use Rattle.std.proofs.Common.{◌∙◌, subst, eqb-true}
use Rattle.std.specs.Prelude.{find}
use Rattle.std.specs.List.{AllByRecursion}
use Rattle.std.proofs.lemmas.Bool.{cases_Bool, cond-true, cond-false, or_cases}
use Rattle.px_bytes.specs.declared.Order.{Order}
use Rattle.px_bytes.specs.Parts.{limit}
use Rattle.px_field.specs.declared.Form.{Form}
use Rattle.px_field.specs.Forms.{form_of}
use Rattle.px_field.specs.lemmas.ValueLaws.{length_elements}
use Rattle.px_tree.specs.declared.entries.Head.{Head}
use Rattle.px_tree.specs.declared.links.Found.{Found}
use Rattle.px_meaning.specs.declared.Dir.{Dir}
use Rattle.px_meaning.specs.declared.Dir.TheVariants.{Thumb}
use Rattle.px_meaning.specs.Roles.{strip_offsets_tag, strip_lengths_tag, role}
use Rattle.px_meaning.specs.Entry.{Entry, raw, entry_elements, has_form, is_short_or_long, IsEntry}
use Rattle.px_meaning.specs.Directory.{entries_at}
use Rattle.px_meaning.specs.Thumbnail.{whole_number, numbers, numbers_in}
use Rattle.px_tree.specs.calls.Reading.{Shows, bare}
use Rattle.px_tree.specs.calls.Linked.{IsFound}
use Rattle.px_tree.specs.calls.Parts.{Finds, HasValue, HasNumbers, HaveNumbers, entry_here}

pub codes_from : (h : Head) → is_short_or_long (bare h) ≡ true → (h.code ≡ 3) ⊎ (h.code ≡ 4)
codes_from h e = elim (or_cases (h.code == 3) (h.code == 4) e) [
  | inl t ↦ inl (eqb-true h.code 3 t)
  | inr t ↦ inr (eqb-true h.code 4 t)
]

module _ (b : List ℕ) (o : Order) (f : Found) (k : Form) (shown : Shows o f.head (entry_here b o f)) where
  pub numbers_is : form_of f.head.code ≡ Some k → numbers b o (entry_here b o f) ≡ map whole_number
      (entry_elements b o (entry_here b o f) k)
  unfolding numbers
  numbers_is known = ap (λ (x : Option Form). numbers_in b o (entry_here b o f) x) (ap form_of (sym shown.code) ∙ known)

  pub length_list : length (entry_elements b o (entry_here b o f) k) ≡ f.head.count
  unfolding entry_elements
  length_list = let e = entry_here b o f in length_elements o k e.count (raw b o e) ∙ sym shown.count

-- ---- what was found

-- a property of each is one of the first that passes a test
pub found_each : {X : Type 0} (P : X → Type 0) (test : X → Bool) (xs : List X) (x : X) → AllByRecursion P xs → find test xs ≡ Some x
    → P x × (test x ≡ true)
found_each P test [] x h e = cc
found_each {X} P test (y ∷ xs) x h e = elim (cases_Bool (test y)) [
  | inl t ↦
      let s : Some y ≡ Some x = sym (cond-true (test y) (Some y) (find test xs) t) ∙ e in
      let k : y ≡ x = cc in
      (subst P k h.0, subst (λ (z : X). test z ≡ true) k t)
  | inr t ↦ found_each P test xs x h.1 (sym (cond-false (test y) (Some y) (find test xs) t) ∙ e)
]

abbrev is_code : ℕ → Bool
is_code c = is_short_or_long (record { tag = 0; code = c; count = 0; last = [] })

module _ (b : List ℕ) (o : Order) (a : ℕ) (bounded : length b ≤ limit) where
  -- an entry that was found is in order
  pub found_entry : (d : Dir) (t : ℕ) (f : Found) → AllByRecursion (IsEntry b o d) (entries_at b o a) → IsFound b o a t f
      → IsEntry b o d (entry_here b o f) × ((entry_here b o f).tag ≡ t)
  found_entry d t f each is =
      let e = entry_here b o f in
      let k = found_each (IsEntry b o d) (λ e. e.tag == t) (entries_at b o a) e each is.is in
      (k.0, eqb-true e.tag t k.1)

  pub has_value : (d : Dir) (t : ℕ) (f : Found) → AllByRecursion (IsEntry b o d) (entries_at b o a) → IsFound b o a t f → HasValue b o f
  has_value d t f each is = record { bounded = bounded; inside = is.inside; shown = is.shown; whole = (found_entry d t f each is).0.inside }

  module _ (each : AllByRecursion (IsEntry b o Thumb) (entries_at b o a)) where
    has_numbers : (t : ℕ) → ((e : Entry) → has_form (role Thumb t) e ≡ is_short_or_long e) → (f : Found) → IsFound b o a t f
        → HasNumbers b o f
    has_numbers t form f is =
        let e = entry_here b o f in
        let k = found_entry Thumb t f each is in
        record {
          bounded = bounded;
          inside = is.inside;
          shown = is.shown;
          formed = ap (λ (c : ℕ). is_code c) is.shown.code ∙ sym (form e) ∙ ap (λ (u : ℕ). has_form (role Thumb u) e) (sym k.1)
              ∙ k.0.formed;
          whole = k.0.inside;
        }

    pub have_numbers : (t : ℕ) → ((e : Entry) → has_form (role Thumb t) e ≡ is_short_or_long e) → (x : Option Found) → Finds b o a t x
        → HaveNumbers b o x
    have_numbers t form None h = tt
    have_numbers t form (Some f) h = has_numbers t form f h

pub offsets_form : (e : Entry) → has_form (role Thumb strip_offsets_tag) e ≡ is_short_or_long e
unfolding role
offsets_form e = refl

pub lengths_form : (e : Entry) → has_form (role Thumb strip_lengths_tag) e ≡ is_short_or_long e
unfolding role
lengths_form e = refl
