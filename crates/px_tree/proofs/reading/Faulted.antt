-- The table of a directory as the entries from an offset on.
use Rattle.std.proofs.Common.{◌≡◌, ℕ, ◌+◌, ◌-◌, nat_le, true, List, [], ◌∷◌, ◌++◌, None, Some, map, filter_map, take, drop, length, refl}
use Rattle.std.proofs.Common.{sym, ap, ap₂, ◌∙◌, arith, subst, le-leb}
use Rattle.std.proofs.lemmas.Bool.{cond-true, and_from}
use Rattle.std.proofs.lemmas.List.{take-take}
use Rattle.px_bytes.specs.declared.Order.{Order}
use Rattle.px_bytes.specs.Parts.{part, pieces}
use Rattle.px_bytes.specs.lemmas.PartLaws.{drop_part}
use Rattle.px_bytes.specs.Range.{Range, range, Agrees}
use Rattle.px_bytes.specs.lemmas.RangeLaws.{agrees_same}
use Rattle.px_meaning.specs.declared.Dir.{Dir}
use Rattle.px_meaning.specs.Entry.{Entry, entry, entries, short, table, table_size, has_table, field, fields}
use Rattle.px_meaning.specs.Directory.{entries_at}
use Rattle.px_meaning.specs.Footprint.{dir_ranges, placed_range, table_range}
use Rattle.px_tree.specs.Checks.{opening_checks, entries_checks, dir_checks}
use Rattle.px_tree.specs.calls.Reading.{HasTable, entries_from}
use Rattle.px_tree.specs.declared.uses.Uses.{Uses}
use Rattle.px_tree.specs.calls.Uses.{AreUses}
use Rattle.px_tree.proofs.reading.Pieces.{pieces_from}
use Rattle.px_tree.proofs.reading.Loop.{same_moved}

module _ (b : List ℕ) (o : Order) (a n : ℕ) (t : HasTable b o a n) where
  has_table-is : has_table b o a ≡ true
  unfolding has_table
  has_table-is =
      let k : n ≡ short o (part b a 2) = t.count in
      and_from (nat_le 1 (short o (part b a 2))) (nat_le (a + table_size (short o (part b a 2))) (length b))
      (subst (λ (m : ℕ). nat_le 1 m ≡ true) k (le-leb 1 n t.some))
      (subst (λ (m : ℕ). nat_le (a + table_size m) (length b) ≡ true) k (le-leb (a + table_size n) (length b) t.inside))

  pub table_is : table b o a ≡ part b a (table_size n)
  unfolding table
  table_is = cond-true (has_table b o a) _ [] has_table-is ∙ ap (λ (m : ℕ). part b a (table_size m)) (sym t.count)

  pub count_is : short o (take 2 (table b o a)) ≡ n
  count_is =
      ap (λ (x : List ℕ). short o (take 2 x)) table_is ∙ ap (short o) (take-take 2 (table_size n) (drop a b) (omega arith)) ∙ sym t.count

  pub entries_at_is : entries_at b o a ≡ entries_from b o (a + 2) n
  unfolding entries
  entries_at_is =
      ap₂ (λ (m : ℕ) (x : List ℕ). map (entry o) (pieces m 12 x)) count_is (ap (drop 2) table_is
      ∙ drop_part b a (table_size n) 2 (omega arith))
      ∙ pieces_from b o (a + 2) (table_size n - 2) n (omega arith)

  pub fields_is : (d : Dir) → fields b o d a ≡ filter_map (field b o d) (entries_from b o (a + 2) n)
  unfolding fields
  fields_is d = ap (filter_map (field b o d)) entries_at_is

  pub ranges_is : (taken : List Range) (claimed : List (ℕ × ℕ))
      → Agrees (filter_map (placed_range o) (entries_from b o (a + 2) n) ++ (range a (table_size n) ∷ taken)) claimed
      → Agrees (dir_ranges b o a ++ taken) claimed
  unfolding dir_ranges
  ranges_is taken claimed h =
      subst (λ (m : ℕ). Agrees (range a (table_size m) ∷ (filter_map (placed_range o) (entries_at b o a) ++ taken)) claimed) t.count
      (subst (λ (es : List Entry). Agrees (range a (table_size n) ∷ (filter_map (placed_range o) es ++ taken)) claimed) (sym entries_at_is)
      (agrees_same _ _ claimed (same_moved (Some (range a (table_size n))) (filter_map (placed_range o) (entries_from b o (a + 2) n)) taken)
      h))

  -- what was kept of its entries
  pub uses_is : (u : Uses) → AreUses b o (entries_from b o (a + 2) n) (a + 2) u → AreUses b o (entries_at b o a) (a + 2) u
  uses_is u h = subst (λ (es : List Entry). AreUses b o es (a + 2) u) (sym entries_at_is) h

  -- the checks of its entries
  pub entries_checks_is : (d : Dir) (taken : List Range) → entries_checks b o d (table_range b o a ∷ taken) (a + 2) None
      (entries_at b o a) ≡ entries_checks b o d (range a (table_size n) ∷ taken) (a + 2) None (entries_from b o (a + 2) n)
  entries_checks_is d taken =
      ap₂ (λ (m : ℕ) (es : List Entry). entries_checks b o d (range a (table_size m) ∷ taken) (a + 2) None es) (sym t.count) entries_at_is

-- the checks of a directory
pub dir_checks_parts : (b : List ℕ) (o : Order) (d : Dir) (earlier : List ℕ) (taken : List Range) (p a : ℕ)
    → dir_checks b o earlier taken p d a ≡ opening_checks b o earlier taken p a
    ++ entries_checks b o d (table_range b o a ∷ taken) (a + 2) None (entries_at b o a)
unfolding dir_checks
dir_checks_parts b o d earlier taken p a = refl
