-- Finding entries in a table.
use Rattle.std.proofs.Common.{◌≡◌, ℕ, zero, suc, ◌+◌, ◌-◌, ◌*◌, ◌==◌, ◌&&◌, Bool, true, false, if◌then◌else◌, List, None, Some, drop}
use Rattle.std.proofs.Common.{length, refl, ap, ap₂, ◌∙◌, arith}
use Rattle.std.specs.Prelude.{find}
use Rattle.px_bytes.specs.declared.Order.{Order}
use Rattle.px_bytes.specs.Parts.{part}
use Rattle.px_bytes.specs.lemmas.PartLaws.{drop_part}
use Rattle.px_tree.specs.declared.entries.Head.{Head}
use Rattle.px_meaning.specs.Entry.{Entry, entry, long, next, table, table_size}
use Rattle.px_meaning.specs.Directory.{entries_at, is_pointer}
use Rattle.px_tree.specs.Checks.{place_of}
use Rattle.px_tree.specs.calls.Reading.{HasTable, Shows, bare, entries_from}
use Rattle.px_tree.proofs.reading.Faulted.{entries_at_is, table_is, count_is}

pub test_same : (o : Order) (t : ℕ) (h : Head) (e : Entry) → Shows o h e → is_pointer t (bare h) ≡ is_pointer t e
test_same o t h e s = ap (λ (x : ℕ). (x == t) && ((h.code == 4) && (h.count == 1))) s.tag
    ∙ ap₂ (λ (x y : ℕ). (e.tag == t) && ((x == 4) && (y == 1))) s.code s.count

module _ (b : List ℕ) (o : Order) (test : Entry → Bool) (p n m : ℕ) (more : n ≡ suc m) where
  abbrev e : Entry
  e = entry o (part b p 12)

  -- the entry isn't such a one, and those after it are left
  pub find_pass : test e ≡ false → find test (entries_from b o p n) ≡ find test (entries_from b o (p + 12) m)
  find_pass f = ap (λ (k : ℕ). find test (entries_from b o p k)) more
      ∙ ap (λ (x : Bool). if x then Some e else find test (entries_from b o (p + 12) m)) f

  pub place_pass : test e ≡ false → place_of test p (entries_from b o p n) ≡ place_of test (p + 12) (entries_from b o (p + 12) m)
  place_pass f = ap (λ (k : ℕ). place_of test p (entries_from b o p k)) more
      ∙ ap (λ (x : Bool). if x then p else place_of test (p + 12) (entries_from b o (p + 12) m)) f

  -- the entry is one
  pub find_here : test e ≡ true → find test (entries_from b o p n) ≡ Some e
  find_here f = ap (λ (k : ℕ). find test (entries_from b o p k)) more
      ∙ ap (λ (x : Bool). if x then Some e else find test (entries_from b o (p + 12) m)) f

  pub place_here : test e ≡ true → place_of test p (entries_from b o p n) ≡ p
  place_here f = ap (λ (k : ℕ). place_of test p (entries_from b o p k)) more
      ∙ ap (λ (x : Bool). if x then p else place_of test (p + 12) (entries_from b o (p + 12) m)) f

pub find_none : (b : List ℕ) (o : Order) (test : Entry → Bool) (p n : ℕ) → n ≡ 0 → find test (entries_from b o p n) ≡ None
find_none b o test p n z = ap (λ (k : ℕ). find test (entries_from b o p k)) z

module _ (b : List ℕ) (o : Order) (a n : ℕ) (s : HasTable b o a n) where
  length_from : (p k : ℕ) → length (entries_from b o p k) ≡ k
  length_from p zero = refl
  length_from p (suc k) = ap suc (length_from (p + 12) k)

  pub length_is : length (entries_at b o a) ≡ n
  length_is = ap (λ (es : List Entry). length es) (entries_at_is b o a n s) ∙ length_from (a + 2) n

  pub next_is : next o (table b o a) ≡ long o (part b (a + 2 + 12 * n) 4)
  unfolding next
  next_is =
      let r : table_size n - (2 + 12 * n) ≡ 4 = omega arith in
      let q : a + (2 + 12 * n) ≡ a + 2 + 12 * n = omega arith in
      ap₂ (λ (k : ℕ) (x : List ℕ). long o (drop (2 + 12 * k) x)) (count_is b o a n s) (table_is b o a n s)
      ∙ ap (long o) (drop_part b a (table_size n) (2 + 12 * n) (omega arith))
      ∙ ap₂ (λ (x y : ℕ). long o (part b x y)) q r
