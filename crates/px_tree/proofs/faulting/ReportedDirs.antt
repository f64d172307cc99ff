-- The checks of the directories are faults.
use Rattle.std.proofs.Common.{◌≡◌, ℕ, ◌+◌, ◌*◌, ◌<◌, ◌==◌, nat_le, inl, inr, true, false, Option, Some, None, is_some, option_map, List, []}
use Rattle.std.proofs.Common.{◌∷◌, ◌++◌, filter_map, flat_map, length, refl, sym, ◌∙◌, ap, subst, arith, leb-true, leb-false, eqb-true}
use Rattle.std.proofs.Common.{length-append}
use Rattle.std.specs.Prelude.{IfSome, option_to_list}
use Rattle.std.specs.List.{AllByRecursion, cons_option}
use Rattle.std.proofs.lemmas.Bool.{cases_Bool, cond-true, cond-false, or_cases, not-false, and_parts}
use Rattle.px_bytes.specs.declared.Order.{Order}
use Rattle.px_bytes.specs.declared.Cause.TheVariants as cause
use Rattle.px_bytes.specs.Parts.{part}
use Rattle.px_bytes.specs.Range.{Range, range}
use Rattle.px_bytes.specs.lemmas.EachLaws.{each_map}
use Rattle.px_field.specs.Forms.{form_of}
use Rattle.px_meaning.specs.declared.Dir.{Dir}
use Rattle.px_meaning.specs.declared.Role.{Role}
use Rattle.px_meaning.specs.declared.Role.TheVariants.{Forbidden}
use Rattle.px_meaning.specs.Roles.{role}
use Rattle.px_meaning.specs.Entry.{Entry, short, table_size, has_table, has_raw, is_allowed, is_placed, raw_size, offset, IsEntry}
use Rattle.px_meaning.specs.Entry.{IsDirectory}
use Rattle.px_meaning.specs.Directory.{dir_at, entries_at}
use Rattle.px_meaning.specs.Thumbnail.{IsInside}
use Rattle.px_meaning.specs.Footprint.{listed, placed_range, table_range, dir_ranges, ranges_at}
use Rattle.px_tree.specs.Checks.{is_not_below, differs, entry_checks, entries_checks, is_earlier_at, opening_checks, dir_checks, named_at}
use Rattle.px_tree.specs.Checks.{checks_at, dirs_checks, dirs_claimed}
use Rattle.px_meaning.specs.Roles.{dir_number}
use Rattle.px_tree.specs.Faults.{At, Begins, Reached, EntryAt, value_owners, dir_owners, owners_at, owners, ExifFault}
use Rattle.px_tree.proofs.assembling.Owned.{ranges_owners_at}
use Rattle.px_tree.proofs.lists.At.{From, from_all, from_head, from_tail, from_left, from_right}
use Rattle.px_tree.proofs.assembling.Judged.{AllHold, at_facts}
use Rattle.px_tree.proofs.faulting.Reported.{FaultsOf, faults_append, Claimed, claimed_later, claimed_cons, claimed_append, overlap_reported, value_reported}
use Rattle.px_tree.proofs.faulting.Reported.{after_value}

module _ (b : List ℕ) (o : Order) (begins : Begins b o) where
  -- the offsets are those of directories before number m
  abbrev pub Before : ℕ → List ℕ → Type 0
  Before m earlier = AllByRecursion (λ x. (e : Dir) × (dir_number e < m) × (dir_at b o e ≡ Some x)) earlier

  -- a value is inside the block
  pub value_inside : (e : Entry) → has_raw b o e ≡ true → IfSome (placed_range o e) (IsInside b)
  unfolding placed_range has_raw
  value_inside e h = elim (cases_Bool (is_placed e)) [
    | inl t ↦ subst (λ z. IfSome z (IsInside b)) (sym (cond-true (is_placed e) (Some (range (offset o e) (raw_size e))) None t))
        (leb-true (offset o e + raw_size e) (length b) (sym (cond-true (is_placed e) (nat_le (offset o e + raw_size e) (length b)) true t)
        ∙ h))
    | inr t ↦ subst (λ z. IfSome z (IsInside b)) (sym (cond-false (is_placed e) (Some (range (offset o e) (raw_size e))) None t)) tt
  ]

  -- ---- the entries of a directory

  module _ (d : Dir) (a : ℕ) (reached : Reached b o d a) where
    -- the entry before entry n has that tag
    abbrev Previous : Option ℕ → ℕ → Type 0
    Previous None n = Unit {0}
    Previous (Some t) n = (i : ℕ) × (e : Entry) × At (entries_at b o a) i e × (n ≡ i + 1) × (e.tag ≡ t)

    unsorted_reported : (u : Option ℕ) (n p : ℕ) (f : Entry) → Previous u n → EntryAt b o d n p f → is_not_below u f.tag ≡ false
        → ExifFault b cause.Unsorted p
    unsorted_reported None n p f w x h = cc
    unsorted_reported (Some t) n p f (i, e, k, q, g) x h =
        let l : f.tag < t = leb-false t f.tag h in
        (o, d, i, a + 2 + 12 * i, e, f, (a, reached, k, refl), subst (λ n. EntryAt b o d n p f) q x, (omega arith))

    doubled_reported : (u : Option ℕ) (n p : ℕ) (f : Entry) → Previous u n → EntryAt b o d n p f → differs u f.tag ≡ false
        → ExifFault b cause.Doubled p
    doubled_reported None n p f w x h = cc
    doubled_reported (Some t) n p f (i, e, k, q, g) x h =
        let l : t ≡ f.tag = eqb-true t f.tag (not-false (t == f.tag) h) in
        (o, d, i, a + 2 + 12 * i, e, f, (a, reached, k, refl), subst (λ n. EntryAt b o d n p f) q x, sym (g ∙ l))

    none_from : {X : Type 0} (z : Option X) → is_some z ≡ false → z ≡ None
    none_from None h = refl
    none_from (Some x) h = cc

    forbidden_from : (r : Role) → is_allowed r ≡ false → r ≡ Forbidden
    forbidden_from Forbidden h = refl
    forbidden_from _ h = cc

    entry_decides : (claimed : List Range) (p n k : ℕ) (u : Option ℕ) (e : Entry) (rest : List (ℕ × Range)) → EntryAt b o d n p e → Previous u n
        → From (owners b o) k (cons_option (option_map (λ r. (p, r)) (placed_range o e)) rest) → Claimed b o k claimed
        → FaultsOf b (entry_checks b o d claimed p u e)
    unfolding entry_checks
    entry_decides claimed p n k u e rest x w f g = (
      unsorted_reported u n p e w x,
      λ _. (
        doubled_reported u n p e w x,
        λ _. (
          λ h. (o, d, n, e, x, none_from (form_of e.code) h),
          λ _. (
            λ h. (o, d, n, e, x, forbidden_from (role d e.tag) h),
            λ _. (
              λ h. (o, d, n, e, x, h),
              λ _. (
                λ h. (o, d, n, e, x, h),
                λ i. (value_reported b o p k rest begins (placed_range o e) claimed f g (value_inside e i), λ _. tt),
              ),
            ),
          ),
        ),
      ),
    )

    raw_holds : (claimed : List Range) (p : ℕ) (u : Option ℕ) (e : Entry) → AllHold (entry_checks b o d claimed p u e) → has_raw b o e ≡ true
    unfolding entry_checks
    raw_holds claimed p u e h = h.1.1.1.1.1.0

    -- entry n and those after it, if owner k is the next
    entries_decide : (claimed : List Range) (p n k : ℕ) (u : Option ℕ) (es : List Entry) → From (entries_at b o a) n es → p ≡ a + 2 + 12 * n
        → Previous u n → From (owners b o) k (value_owners o p es) → Claimed b o k claimed → FaultsOf b (entries_checks b o d claimed p u es)
    entries_decide claimed p n k u [] c q w f g = tt
    entries_decide claimed p n k u (e ∷ es) c q w f g =
        let here : At (entries_at b o a) n e = from_head (entries_at b o a) n e es c in
        faults_append b (entry_checks b o d claimed p u e) (entries_checks b o d (option_to_list (placed_range o e) ++ claimed) (p + 12)
        (Some e.tag) es)
        (entry_decides claimed p n k u e (value_owners o (p + 12) es) (a, reached, here, q) w f g)
        (λ all.
        let s = after_value b o p k (value_owners o (p + 12) es) (placed_range o e) claimed f g (value_inside e (raw_holds claimed p u e all)) in
        entries_decide (option_to_list (placed_range o e) ++ claimed) (p + 12) (n + 1) s.0 (Some e.tag) es
        (from_tail (entries_at b o a) n e es c) (omega arith) (n, e, here, refl, refl) s.1 s.2)

    -- ---- one directory

    loop_reported : (earlier : List ℕ) → Before (dir_number d) earlier → is_earlier_at earlier a ≡ true → ExifFault b cause.Loop (named_at b o d)
    loop_reported [] w h = cc
    loop_reported (x ∷ xs) w h = elim (or_cases (x == a) (is_earlier_at xs a) h) [
      | inl t ↦ let e = w.0 in (o, d, e.0, a, reached, (begins, e.2 ∙ ap (λ y. Some y) (eqb-true x a t)), e.1, refl)
      | inr t ↦ loop_reported xs w.1 t
    ]

    dir_decides : (earlier : List ℕ) (claimed : List Range) (k : ℕ) → Before (dir_number d) earlier → From (owners b o) k (dir_owners b o d a)
        → Claimed b o k claimed → FaultsOf b (dir_checks b o earlier claimed (named_at b o d) d a)
    unfolding dir_checks dir_owners
    dir_decides earlier claimed k w f g =
        let n = short o (part b a 2) in
        let p = named_at b o d in
        let here : At (owners b o) k (p, table_range b o a) =
        from_head (owners b o) k (p, table_range b o a) (value_owners o (a + 2) (entries_at b o a)) f in
        faults_append b (opening_checks b o earlier claimed p a) (entries_checks b o d (table_range b o a ∷ claimed) (a + 2) None
        (entries_at b o a)) (
          λ h. loop_reported earlier w (not-false (is_earlier_at earlier a) h),
          λ _. (
            λ h. (o, d, a, reached, refl, (let l : length b < a + 2 = leb-false (a + 2) (length b) h in omega arith)),
            λ c. (
              λ h. (o, d, reached, leb-true (a + 2) (length b) c, (let l : n < 1 = leb-false 1 n h in omega arith)),
              λ _. (
                λ h. (o, d, a, reached, refl, leb-false (a + table_size n) (length b) h),
                λ i. (overlap_reported b o begins k p (table_range b o a) claimed here g (leb-true (a + table_size n) (length b) i), λ _. tt),
              ),
            ),
          ),
        )
        (λ all. entries_decide (table_range b o a ∷ claimed) (a + 2) 0 (k + 1) None (entries_at b o a) (from_all (entries_at b o a))
        (omega arith) tt
        (from_tail (owners b o) k (p, table_range b o a) (value_owners o (a + 2) (entries_at b o a)) f)
        (claimed_cons b o k p (table_range b o a) claimed here (leb-true (a + table_size n) (length b) all.1.1.1.0) g))

  -- ---- the directories in order

  -- each has the next number
  abbrev pub Numbered : ℕ → List Dir → Type 0
  Numbered m [] = Unit {0}
  Numbered m (d ∷ ds) = (dir_number d ≡ m) × Numbered (m + 1) ds

  at_decides : (d : Dir) (z : Option ℕ) → dir_at b o d ≡ z → (earlier : List ℕ) (claimed : List Range) (k : ℕ) → Before (dir_number d) earlier
      → From (owners b o) k (listed (option_map (dir_owners b o d) z)) → Claimed b o k claimed → FaultsOf b (checks_at b o earlier claimed d z)
  at_decides d None q earlier claimed k w f g = tt
  at_decides d (Some a) q earlier claimed k w f g = dir_decides d a (begins, q) earlier claimed k w f g

  before_more : (d : Dir) (z : Option ℕ) → dir_at b o d ≡ z → (m : ℕ) (earlier : List ℕ) → dir_number d ≡ m → Before m earlier
      → Before (m + 1) (option_to_list z ++ earlier)
  before_more d z q m earlier l w = add z q
    where
      rest : Before (m + 1) earlier
      rest = each_map (λ x. (e : Dir) × (dir_number e < m) × (dir_at b o e ≡ Some x))
          (λ x. (e : Dir) × (dir_number e < m + 1) × (dir_at b o e ≡ Some x)) (λ x e. (e.0, (let n = e.1 in omega arith), e.2)) earlier w

      add : (z : Option ℕ) → dir_at b o d ≡ z → Before (m + 1) (option_to_list z ++ earlier)
      add None q = rest
      add (Some a) q = ((d, omega arith, q), rest)

  -- the ranges of a valid directory are inside the block
  cons_inside : (z : Option Range) (rs : List Range) → IfSome z (IsInside b) → AllByRecursion (IsInside b) rs
      → AllByRecursion (IsInside b) (cons_option z rs)
  cons_inside None rs i h = h
  cons_inside (Some r) rs i h = (i, h)

  values_inside : (d : Dir) (es : List Entry) → AllByRecursion (IsEntry b o d) es
      → AllByRecursion (IsInside b) (filter_map (placed_range o) es)
  values_inside d [] h = tt
  values_inside d (e ∷ es) h =
      cons_inside (placed_range o e) (filter_map (placed_range o) es) (value_inside e h.0.inside) (values_inside d es h.1)

  dir_inside : (d : Dir) (z : Option ℕ) → IfSome z (IsDirectory b o d)
      → AllByRecursion (IsInside b) (listed (option_map (dir_ranges b o) z))
  unfolding dir_ranges has_table
  dir_inside d None h = tt
  dir_inside d (Some a) h =
      let n = short o (part b a 2) in (
        leb-true (a + table_size n) (length b) (and_parts (nat_le 1 n) (nat_le (a + table_size n) (length b)) h.there).1,
        values_inside d
            (entries_at b o a) h.each,
      )

  -- the ranges claimed after a valid directory
  after_dir : (d : Dir) (claimed : List Range) (k : ℕ) → IfSome (dir_at b o d) (IsDirectory b o d) → From (owners b o) k (owners_at b o d)
      → Claimed b o k claimed → Claimed b o (k + length (owners_at b o d)) (ranges_at b o d ++ claimed)
  after_dir d claimed k i f g =
      claimed_append b o k (owners_at b o d) (ranges_at b o d) claimed (ranges_owners_at b o d) f (dir_inside d (dir_at b o d) i) g

  pub dirs_decide : (m : ℕ) (ds : List Dir) (earlier : List ℕ) (claimed : List Range) (k : ℕ) → Numbered m ds → Before m earlier
      → From (owners b o) k (flat_map (owners_at b o) ds) → Claimed b o k claimed → FaultsOf b (dirs_checks b o earlier claimed ds)
  dirs_decide m [] earlier claimed k n w f g = tt
  dirs_decide m (d ∷ ds) earlier claimed k n w f g =
      let here : From (owners b o) k (owners_at b o d) = from_left (owners b o) k (owners_at b o d) (flat_map (owners_at b o) ds) f in
      faults_append b (checks_at b o earlier claimed d (dir_at b o d)) (dirs_checks b o (option_to_list (dir_at b o d) ++ earlier)
      (ranges_at b o d ++ claimed) ds)
      (at_decides d (dir_at b o d) refl earlier claimed k (subst (λ m. Before m earlier) (sym n.0) w) here g)
      (λ all. dirs_decide (m + 1) ds (option_to_list (dir_at b o d) ++ earlier) (ranges_at b o d ++ claimed) (k + length (owners_at b o d)) n.1
      (before_more d (dir_at b o d) refl m earlier n.0 w)
      (from_right (owners b o) k (owners_at b o d) (flat_map (owners_at b o) ds) f)
      (after_dir d claimed k (at_facts b o earlier claimed d (dir_at b o d) all).0 here g))

  -- the ranges claimed after valid directories
  pub dirs_kept : (ds : List Dir) (claimed : List Range) (k : ℕ) → AllByRecursion (λ d. IfSome (dir_at b o d) (IsDirectory b o d)) ds
      → From (owners b o) k (flat_map (owners_at b o) ds) → Claimed b o k claimed
      → Claimed b o (k + length (flat_map (owners_at b o) ds)) (dirs_claimed b o claimed ds)
  dirs_kept [] claimed k i f g = claimed_later b o k (k + 0) claimed (omega arith) g
  dirs_kept (d ∷ ds) claimed k i f g =
      let xs = owners_at b o d in
      let ys = flat_map (owners_at b o) ds in
      let here = from_left (owners b o) k xs ys f in
      let z : k + length xs + length ys ≡ k + length (xs ++ ys) = (let e = length-append xs ys in omega arith) in
      subst (λ l. Claimed b o l (dirs_claimed b o (ranges_at b o d ++ claimed) ds)) z
      (dirs_kept ds (ranges_at b o d ++ claimed) (k + length xs) i.1 (from_right (owners b o) k xs ys f) (after_dir d claimed k i.0 here g))
