-- The entries of a table, judged one by one.
use Rattle.std.proofs.Common.{◌≡◌, ℕ, suc, ◌+◌, List, ◌++◌, Option, Some, None, option_to_list, option_map, filter_map, refl, sym, ap, ◌∙◌}
use Rattle.std.proofs.Common.{subst}
use Rattle.std.specs.Prelude.{option_and_then}
use Rattle.std.specs.List.{cons_option}
use Rattle.px_bytes.specs.declared.Order.{Order}
use Rattle.px_bytes.specs.declared.Refusal.{Refusal}
use Rattle.px_tree.specs.declared.entries.Shape.{Shape}
use Rattle.px_field.specs.declared.Form.{Form}
use Rattle.px_meaning.specs.declared.Dir.{Dir}
use Rattle.px_meaning.specs.declared.Role.{Role}
use Rattle.px_bytes.specs.Parts.{part}
use Rattle.px_meaning.specs.Tree.{Fields}
use Rattle.px_meaning.specs.Roles.{role}
use Rattle.px_field.specs.Values.{Value}
use Rattle.px_meaning.specs.Entry.{Entry, entry, field, field_value_in}
use Rattle.px_bytes.specs.Range.{Range, Agrees}
use Rattle.px_bytes.specs.calls.Freed.{SameFree}
use Rattle.px_meaning.specs.Footprint.{placed_range}
use Rattle.px_bytes.specs.Checks.{Check, first_false, Refuses}
use Rattle.px_tree.specs.Checks.{entry_checks, entries_checks}
use Rattle.px_tree.specs.calls.Reading.{IsShape, entries_from}
use Rattle.px_bytes.specs.lemmas.RangeLaws.{agrees_same}
use Rattle.px_bytes.specs.lemmas.ApartLaws.{same_refl, same_trans, same_front}
use Rattle.px_bytes.specs.lemmas.CheckLaws.{first_false_true, Refuses_more, Refuses_same}

-- the range of an entry, claimed before or after the ranges of the entries that follow it
pub same_moved : (x : Option Range) (es now : List Range) → SameFree (es ++ (option_to_list x ++ now)) (cons_option x es ++ now)
same_moved None es now = same_refl (es ++ now)
same_moved (Some x) es now = same_front x es now

-- ---- the loop
module _ (b : List ℕ) (o : Order) (d : Dir) where
  -- what was read and what is left have the faults and the ranges of all
  pub record SoFar (taken : List Range) (all : List Entry) (start : ℕ) (claimed : List (ℕ × ℕ)) (at : ℕ) (before : Option ℕ) (left : ℕ) : Type
      0 where
    pub now : List Range
    pub agrees : Agrees now claimed
    pub faults : first_false (entries_checks b o d now at before (entries_from b o at left)) ≡ first_false
        (entries_checks b o d taken start None all)
    pub free : SameFree (filter_map (placed_range o) (entries_from b o at left) ++ now) (filter_map (placed_range o) all ++ taken)

  pub so_far_start : (taken : List Range) (start n : ℕ) (claimed : List (ℕ × ℕ)) → Agrees taken claimed
      → SoFar taken (entries_from b o start n) start claimed start None n
  so_far_start taken start n claimed a = record { now = taken; agrees = a; faults = refl; free = same_refl _ }

  abbrev tag_of : Entry → ℕ
  tag_of e = e.tag

  -- the first entry of those left, and the entries after it
  after : (now : List Range) (at : ℕ) (before : Option ℕ) (m : ℕ) → List Check
  after now at before m =
      entries_checks b o d (option_to_list (placed_range o (entry o (part b at 12)))
      ++ now) (at + 12) (Some (tag_of (entry o (part b at 12)))) (entries_from b o (at + 12) m)

  module _ (taken : List Range) (all : List Entry) (start : ℕ) (claimed : List (ℕ × ℕ)) (at : ℕ) (before : Option ℕ) (n m : ℕ)
      (more : n ≡ suc m) (s : SoFar taken all start claimed at before n) where
    abbrev e : Entry
    e = entry o (part b at 12)

    pub so_far_refuses : (r : Refusal) → Refuses r (entry_checks b o d s.now at before e)
        → Refuses r (entries_checks b o d taken start None all)
    unfolding after
    so_far_refuses r h =
        Refuses_same r (entries_checks b o d s.now at before (entries_from b o at (suc m))) (entries_checks b o d taken start None all)
        (ap (λ (k : ℕ). first_false (entries_checks b o d s.now at before (entries_from b o at k))) (sym more) ∙ s.faults)
        (Refuses_more r (entry_checks b o d s.now at before e) (after s.now at before m) h)

    pub so_far_step : (new : List (ℕ × ℕ)) (tag : ℕ) → tag ≡ e.tag → first_false (entry_checks b o d s.now at before e) ≡ None
        → Agrees (option_to_list (placed_range o e) ++ s.now) new → SoFar taken all start new (at + 12) (Some tag) m
    unfolding after
    so_far_step new tag t h a = record {
      now = option_to_list (placed_range o e) ++ s.now;
      agrees = a;
      faults =
          ap (λ (k : ℕ). first_false (entries_checks b o d (option_to_list (placed_range o e) ++ s.now) (at + 12) (Some k)
          (entries_from b o (at + 12) m))) t
          ∙ sym (first_false_true (entry_checks b o d s.now at before e) (after s.now at before m) h)
          ∙ ap (λ (k : ℕ). first_false (entries_checks b o d s.now at before (entries_from b o at k))) (sym more)
          ∙ s.faults;
      free = same_trans (filter_map (placed_range o) (entries_from b o (at + 12) m)
          ++ (option_to_list (placed_range o e) ++ s.now)) (filter_map (placed_range o) (entries_from b o at (suc m))
          ++ s.now) (filter_map (placed_range o) all ++ taken)
          (same_moved (placed_range o e) (filter_map (placed_range o) (entries_from b o (at + 12) m)) s.now)
          (subst (λ (k : ℕ). SameFree (filter_map (placed_range o) (entries_from b o at k) ++ s.now) (filter_map (placed_range o) all
          ++ taken)) more s.free);
    }

  -- the fields of the first entry and of the entries after it
  pub fields_step : (at n m : ℕ) → n ≡ suc m → filter_map (field b o d) (entries_from b o at n) ≡ option_to_list
      (field b o d (entry o (part b at 12))) ++ filter_map (field b o d) (entries_from b o (at + 12) m)
  fields_step at n m more =
      ap (λ (k : ℕ). filter_map (field b o d) (entries_from b o at k)) more ∙ cons_is (field b o d (entry o (part b at 12))) _
    where
      cons_is : (x : Option (ℕ × Value)) (xs : Fields) → cons_option x xs ≡ option_to_list x ++ xs
      cons_is None xs = refl
      cons_is (Some x) xs = refl

  -- the field of an entry by its shape
  pub field_is : (s : Shape) (e : Entry) → IsShape o d s e → field b o d e ≡ option_map (λ v. (e.tag, v)) (field_value_in b o e s.role s.form)
  unfolding field
  field_is s e i =
      ap (λ (x : Option Form). option_map (λ (v : Value). (e.tag, v)) (option_and_then (field_value_in b o e (role d e.tag)) x)) i.form
      ∙ ap (λ (r : Role). option_map (λ (v : Value). (e.tag, v)) (field_value_in b o e r s.form)) (sym i.role_is)

  -- if none is left
  pub so_far_end : (taken : List Range) (all : List Entry) (start : ℕ) (claimed : List (ℕ × ℕ)) (at : ℕ) (before : Option ℕ) (n : ℕ) → n ≡ 0
      → SoFar taken all start claimed at before n
      → (first_false (entries_checks b o d taken start None all) ≡ None) × Agrees (filter_map (placed_range o) all ++ taken) claimed
  so_far_end taken all start claimed at before n z s = (
    sym s.faults ∙ ap (λ (k : ℕ). first_false (entries_checks b o d s.now at before (entries_from b o at k))) z,
    agrees_same s.now (filter_map (placed_range o) all ++ taken) claimed (subst
        (λ (k : ℕ). SameFree (filter_map (placed_range o) (entries_from b o at k) ++ s.now) (filter_map (placed_range o) all ++ taken)) z
        s.free) s.agrees,
  )
