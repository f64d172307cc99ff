-- A block has a meaning if each check passes.
use Rattle.std.proofs.Common.{◌≡◌, ℕ, ◌+◌, ◌<◌, ◌≤◌, ◌==◌, ◌⊎◌, nat_lt, nat_le, inl, inr, true, if◌then◌else◌, ◌||◌, Option, Some, None}
use Rattle.std.proofs.Common.{option_map, List, [], ◌∷◌, ◌++◌, map, filter_map, flat_map, length, take, refl, sym, ◌∙◌, ap, ap₂, subst}
use Rattle.std.proofs.Common.{arith, leb-true, eqb-true, eq-eqb}
use Rattle.std.specs.Prelude.{IfSome, option_to_list}
use Rattle.std.specs.List.{AllByRecursion, cons_option}
use Rattle.std.proofs.lemmas.Bool.{cases_Bool, cond-true, cond-false, and_parts, and_from, or_cases, not-true, eqb-false, cases_eq}
use Rattle.std.proofs.lemmas.List.{take_all, append_assoc}
use Rattle.px_bytes.specs.declared.Order.{Order}
use Rattle.px_bytes.specs.declared.Order.TheVariants.{Least, Most}
use Rattle.px_bytes.specs.declared.Cause.{Cause}
use Rattle.px_bytes.specs.Parts.{limit, part}
use Rattle.px_bytes.specs.Range.{Range, range, Apart, AllApart}
use Rattle.px_bytes.specs.lemmas.ApartLaws.{apart_each}
use Rattle.px_bytes.specs.Checks.{Check, first_false}
use Rattle.px_bytes.specs.lemmas.EachLaws.{each_map, each_left, each_right}
use Rattle.px_meaning.specs.declared.Dir.{Dir}
use Rattle.px_meaning.specs.declared.Dir.TheVariants.{Thumb}
use Rattle.px_meaning.specs.Roles.{strip_offsets_tag, strip_lengths_tag}
use Rattle.px_meaning.specs.Tree.{Meaning}
use Rattle.px_meaning.specs.Entry.{Entry, short, table_size, next, table, has_table, IsEntry, Rising, IsDirectory}
use Rattle.px_meaning.specs.Directory.{magic, dirs, dir_at, entries_at, entry_with}
use Rattle.px_meaning.specs.Thumbnail.{are_paired, jpeg_range, strip_ranges, IsInside, IsThumbnail}
use Rattle.px_meaning.specs.Footprint.{listed, placed_range, dir_ranges, thumb_ranges, footprint}
use Rattle.px_meaning.specs.Says.{meaning, SaysExif}
use Rattle.px_tree.specs.Checks.{same_bytes, order_of, begins_header, is_not_below, differs, is_free_value, entry_checks, entries_checks}
use Rattle.px_tree.specs.Checks.{dir_checks, named_at, checks_at, dirs_checks, dirs_claimed, same_count, range_checks, thumb_checks}
use Rattle.px_tree.specs.Checks.{thumb_checks_at, tree_checks, checks_in, checks, FirstExifFault}
use Rattle.px_tree.proofs.assembling.Fresh.{Fresh, fresh_cons, fresh_append, fresh_left, fresh_right, fresh_nil, fresh_all}

abbrev pub IsClaimed : Check → Type 0
IsClaimed k = k.holds ≡ true

abbrev pub AllHold : List Check → Type 0
AllHold cs = AllByRecursion IsClaimed cs

pub none_false : (cs : List Check) → first_false cs ≡ None → AllHold cs
none_false [] e = tt
none_false (c ∷ cs) e = elim (cases_Bool c.holds) [
  | inl t ↦ (t, none_false cs (sym (cond-true c.holds (first_false cs) (Some (c.cause, c.place)) t) ∙ e))
  | inr t ↦ let q : ◌≡◌ {A = Option (Cause × ℕ)} (Some (c.cause, c.place)) None =
      sym (cond-false c.holds (first_false cs) (Some (c.cause, c.place)) t) ∙ e in cc
]

-- ---- one entry and all entries

module _ (b : List ℕ) (o : Order) (d : Dir) where
  -- tags after u
  abbrev After : Option ℕ → ℕ → Type 0
  After None t = Unit {0}
  After (Some u) t = u < t

  after_from : (u : Option ℕ) (t : ℕ) → is_not_below u t ≡ true → differs u t ≡ true → After u t
  after_from None t h k = tt
  after_from (Some u) t h k = let l : u ≤ t = leb-true u t h in let n = eqb-false u t (not-true (u == t) k) in
      elim (cases_eq u t) [ inl e ↦ absurd (n e) | inr e ↦ omega arith ]

  free_value : (claimed : List Range) (r : Option Range) → is_free_value claimed r ≡ true → IfSome r (λ r. AllByRecursion (Apart r) claimed)
  free_value claimed None h = tt
  free_value claimed (Some r) h = apart_each r claimed h

  fresh_value : (claimed : List Range) (r : Option Range) (rs : List Range) → IfSome r (λ r. AllByRecursion (Apart r) claimed)
      → Fresh (option_to_list r ++ claimed) rs → Fresh claimed (cons_option r rs)
  fresh_value claimed None rs h f = f
  fresh_value claimed (Some r) rs h f = fresh_cons claimed r rs h f

  record EntryFacts (claimed : List Range) (u : Option ℕ) (e : Entry) : Type 0 where
    after : After u e.tag
    entry : IsEntry b o d e
    free : IfSome (placed_range o e) (λ r. AllByRecursion (Apart r) claimed)

  entry_facts : (claimed : List Range) (p : ℕ) (u : Option ℕ) (e : Entry) → AllHold (entry_checks b o d claimed p u e) → EntryFacts claimed u e
  unfolding entry_checks
  entry_facts claimed p u e h = record {
    after = after_from u e.tag h.0 h.1.0;
    entry = record { known = h.1.1.0; allowed = h.1.1.1.0; formed = h.1.1.1.1.0; inside = h.1.1.1.1.1.0 };
    free = free_value claimed (placed_range o e) h.1.1.1.1.1.1.0;
  }

  record EntriesFacts (claimed : List Range) (u : Option ℕ) (es : List Entry) : Type 0 where
    after : AllByRecursion (After u) (map (λ e. e.tag) es)
    rising : Rising (map (λ e. e.tag) es)
    each : AllByRecursion (IsEntry b o d) es
    fresh : Fresh claimed (filter_map (placed_range o) es)

  after_some : (u : Option ℕ) (t : ℕ) (ts : List ℕ) → After u t → AllByRecursion (After (Some t)) ts → AllByRecursion (After u) ts
  after_some None t [] h k = tt
  after_some None t (s ∷ ts) h k = (tt, after_some None t ts h k.1)
  after_some (Some u) t ts h k = each_map (λ s. t < s) (λ s. u < s) (λ s l. omega arith) ts k

  entries_facts : (claimed : List Range) (p : ℕ) (u : Option ℕ) (es : List Entry) → AllHold (entries_checks b o d claimed p u es)
      → EntriesFacts claimed u es
  entries_facts claimed p u [] h = record { after = tt; rising = tt; each = tt; fresh = fresh_nil claimed }
  entries_facts claimed p u (e ∷ es) h =
      let x = entry_facts claimed p u e (each_left IsClaimed (entry_checks b o d claimed p u e)
      (entries_checks b o d (option_to_list (placed_range o e) ++ claimed) (p + 12) (Some e.tag) es) h) in
      let y = entries_facts (option_to_list (placed_range o e) ++ claimed) (p + 12) (Some e.tag) es
      (each_right IsClaimed (entry_checks b o d claimed p u e) (entries_checks b o d (option_to_list (placed_range o e) ++ claimed) (p + 12)
      (Some e.tag) es) h) in
      record {
        after = (x.after, after_some u e.tag (map (λ e. e.tag) es) x.after y.after);
        rising = (y.after, y.rising);
        each = (x.entry, y.each);
        fresh = fresh_value claimed (placed_range o e) (filter_map (placed_range o) es) x.free y.fresh;
      }

  -- ---- one directory

  pub dir_facts : (earlier : List ℕ) (claimed : List Range) (p a : ℕ) → AllHold (dir_checks b o earlier claimed p d a)
      → IsDirectory b o d a × Fresh claimed (dir_ranges b o a)
  unfolding dir_checks dir_ranges has_table
  dir_facts earlier claimed p a h =
      let n = short o (part b a 2) in
      let f = entries_facts (range a (table_size n) ∷ claimed) (a + 2) None (entries_at b o a) h.1.1.1.1.1 in (
        record { there = and_from (nat_le 1 n) (nat_le (a + table_size n) (length b)) h.1.1.0 h.1.1.1.0; rising = f.rising; each = f.each },
        fresh_cons claimed (range a (table_size n)) (filter_map (placed_range o) (entries_at b o a))
            (apart_each (range a (table_size n)) claimed h.1.1.1.1.0) f.fresh,
      )

-- ---- the directories in order

module _ (b : List ℕ) (o : Order) where
  abbrev of_dir : Dir → List Range
  of_dir d = listed (option_map (dir_ranges b o) (dir_at b o d))

  abbrev InOrder : Dir → Type 0
  InOrder d = IfSome (dir_at b o d) (IsDirectory b o d)

  pub at_facts : (earlier : List ℕ) (claimed : List Range) (d : Dir) (z : Option ℕ) → AllHold (checks_at b o earlier claimed d z)
      → IfSome z (IsDirectory b o d) × Fresh claimed (listed (option_map (dir_ranges b o) z))
  at_facts earlier claimed d None h = (tt, fresh_nil claimed)
  at_facts earlier claimed d (Some a) h = dir_facts b o d earlier claimed (named_at b o d) a h

  pub dirs_facts : (earlier : List ℕ) (claimed : List Range) (ds : List Dir) → AllHold (dirs_checks b o earlier claimed ds)
      → AllByRecursion InOrder ds × Fresh claimed (flat_map of_dir ds)
  dirs_facts earlier claimed [] h = (tt, fresh_nil claimed)
  dirs_facts earlier claimed (d ∷ ds) h =
      let x = at_facts earlier claimed d (dir_at b o d) (each_left IsClaimed (checks_at b o earlier claimed d (dir_at b o d))
      (dirs_checks b o (option_to_list (dir_at b o d) ++ earlier) (of_dir d ++ claimed) ds) h) in
      let y = dirs_facts (option_to_list (dir_at b o d) ++ earlier) (of_dir d
      ++ claimed) ds (each_right IsClaimed (checks_at b o earlier claimed d (dir_at b o d))
      (dirs_checks b o (option_to_list (dir_at b o d) ++ earlier) (of_dir d ++ claimed) ds) h) in
      ((x.0, y.0), fresh_append claimed (of_dir d) (flat_map of_dir ds) x.1 y.1)

  -- the ranges of the directories and those after them
  fresh_dirs : (ds : List Dir) (claimed ss : List Range) → Fresh claimed (flat_map of_dir ds) → Fresh (dirs_claimed b o claimed ds) ss
      → Fresh claimed (flat_map of_dir ds ++ ss)
  fresh_dirs [] claimed ss f g = g
  fresh_dirs (d ∷ ds) claimed ss f g = subst (Fresh claimed) (sym (append_assoc (of_dir d) (flat_map of_dir ds) ss))
      (fresh_append claimed (of_dir d) (flat_map of_dir ds ++ ss) (fresh_left claimed (of_dir d) (flat_map of_dir ds) f)
      (fresh_dirs ds (of_dir d ++ claimed) ss (fresh_right claimed (of_dir d) (flat_map of_dir ds) f) g))

  -- ---- the thumbnail

  pub ranges_facts : (p : ℕ) (claimed rs : List Range) → AllHold (range_checks b p claimed rs) → AllByRecursion (IsInside b) rs × Fresh claimed rs
  ranges_facts p claimed [] h = (tt, fresh_nil claimed)
  ranges_facts p claimed (r ∷ rs) h = let y = ranges_facts p (r ∷ claimed) rs h.1.1 in
      ((leb-true (r.start + r.size) (length b) h.0, y.0), fresh_cons claimed r rs (apart_each r claimed h.1.0) y.1)

  in_list : (P : Range → Type 0) (r : Option Range) → AllByRecursion P (option_to_list r) → IfSome r P
  in_list P None h = tt
  in_list P (Some r) h = h.0

  in_lists : (P : Range → Type 0) (r : Option (List Range)) → AllByRecursion P (listed r) → IfSome r (AllByRecursion P)
  in_lists P None h = tt
  in_lists P (Some r) h = h

  counts_from : (x y : Option Entry) → are_paired x y ≡ true → same_count x y ≡ true
      → option_map (λ (e : Entry). e.count) x ≡ option_map (λ (e : Entry). e.count) y
  counts_from None None h k = refl
  counts_from (Some x) (Some y) h k = ap (λ n. Some n) (eqb-true x.count y.count k)
  counts_from None (Some y) h k = cc
  counts_from (Some x) None h k = cc

  module _ (claimed : List Range) (a : ℕ) where
    abbrev es : List Entry
    es = entries_at b o a

    abbrev jpegs : List Range
    jpegs = option_to_list (jpeg_range o es)

    abbrev strips : List Range
    strips = listed (strip_ranges b o es)

    thumb_facts : AllHold (thumb_checks b o claimed a) → IsThumbnail b o a × Fresh claimed (thumb_ranges b o a)
    unfolding thumb_checks thumb_ranges
    thumb_facts h =
        let rest = h.1.1.1.1 in
        let j = ranges_facts _ claimed jpegs (each_left IsClaimed (range_checks b _ claimed jpegs) (range_checks b _ (jpegs ++ claimed) strips) rest) in
        let s = ranges_facts _ (jpegs ++ claimed) strips (each_right IsClaimed (range_checks b _ claimed jpegs)
        (range_checks b _ (jpegs ++ claimed) strips) rest) in (
          record {
            jpeg_pair = h.0;
            jpeg_inside = in_list (IsInside b) (jpeg_range o es) j.0;
            strip_pair = h.1.0;
            strip_counts = counts_from (entry_with strip_offsets_tag es) (entry_with strip_lengths_tag es) h.1.0 h.1.1.0;
            strips_inside = in_lists (IsInside b) (strip_ranges b o es) s.0;
            ends = eqb-true (next o (table b o a)) 0 h.1.1.1.0;
          },
          fresh_append claimed jpegs strips j.1 s.1,
        )

  thumb_at_facts : (claimed : List Range) (z : Option ℕ) → AllHold (thumb_checks_at b o claimed z)
      → IfSome z (IsThumbnail b o) × Fresh claimed (listed (option_map (thumb_ranges b o) z))
  thumb_at_facts claimed None h = (tt, fresh_nil claimed)
  thumb_at_facts claimed (Some a) h = thumb_facts claimed a h

  -- ---- the tree

  abbrev of_thumb : List Range
  of_thumb = listed (option_map (thumb_ranges b o) (dir_at b o Thumb))

  abbrev header : List Range
  header = range 0 8 ∷ []

  tree_facts : AllHold (tree_checks b o) → AllByRecursion InOrder dirs × IfSome (dir_at b o Thumb) (IsThumbnail b o) × AllApart
      (footprint b o)
  unfolding tree_checks footprint
  tree_facts h =
      let x = dirs_facts [] header dirs (each_left IsClaimed (dirs_checks b o [] header dirs)
      (thumb_checks_at b o (dirs_claimed b o header dirs) (dir_at b o Thumb)) h) in
      let y = thumb_at_facts (dirs_claimed b o header dirs) (dir_at b o Thumb)
      (each_right IsClaimed (dirs_checks b o [] header dirs) (thumb_checks_at b o (dirs_claimed b o header dirs) (dir_at b o Thumb)) h) in
      (x.0, y.0, fresh_all (range 0 8) (flat_map of_dir dirs ++ of_thumb) (fresh_dirs dirs header of_thumb x.1 y.1))

-- ---- the header

bytes_true : (xs ys : List ℕ) → same_bytes xs ys ≡ true → xs ≡ ys
bytes_true [] [] h = refl
bytes_true (x ∷ xs) (y ∷ ys) h =
    let p = and_parts (x == y) (same_bytes xs ys) h in ap₂ (λ z zs. z ∷ zs) (eqb-true x y p.0) (bytes_true xs ys p.1)
bytes_true [] (y ∷ ys) h = cc
bytes_true (x ∷ xs) [] h = cc

pub bytes_self : (xs : List ℕ) → same_bytes xs xs ≡ true
bytes_self [] = refl
bytes_self (x ∷ xs) = and_from (x == x) (same_bytes xs xs) (eq-eqb x x refl) (bytes_self xs)

pub order_reported : (b : List ℕ) (o : Order) → take 4 b ≡ magic o → order_of b ≡ Some o
order_reported b Least h = ap (λ x. if same_bytes x (magic Least) then Some Least else if same_bytes x (magic Most) then Some Most else None) h
order_reported b Most h = ap (λ x. if same_bytes x (magic Least) then Some Least else if same_bytes x (magic Most) then Some Most else None) h

pub all_magic : (b : List ℕ) (o : Order) → 8 ≤ length b → take (length b) (magic o) ≡ magic o
all_magic b Least l = take_all (length b) (magic Least) (omega arith)
all_magic b Most l = take_all (length b) (magic Most) (omega arith)

pub header_begun : (b : List ℕ) → 8 ≤ length b → begins_header b ≡ true → (o : Order) × (take 4 b ≡ magic o)
header_begun b l h = elim (or_cases (same_bytes (take 4 b) (take (length b) (magic Least)))
    (same_bytes (take 4 b) (take (length b) (magic Most)))
    (and_parts (nat_lt 0 (length b)) (same_bytes (take 4 b) (take (length b) (magic Least)) || same_bytes (take 4 b)
    (take (length b) (magic Most))) h).1) [
      | inl t ↦ (Least, bytes_true (take 4 b) (take (length b) (magic Least)) t ∙ all_magic b Least l)
      | inr t ↦ (Most, bytes_true (take 4 b) (take (length b) (magic Most)) t ∙ all_magic b Most l)
    ]

-- If each check passes, the block has a meaning.
pub judged_well : (b : List ℕ) → AllHold (checks b) → (m : Meaning) × SaysExif b m
unfolding checks
judged_well b h =
    let most : length b ≤ limit = leb-true (length b) limit h.0 in
    let least : 8 ≤ length b = leb-true 8 (length b) h.1.1.0 in
    let o = header_begun b least h.1.0 in
    let t = tree_facts b o.0 (subst (λ x. AllHold (checks_in b x)) (order_reported b o.0 o.1) h.1.1.1) in (
      meaning b o.0,
      record {
        order = o.0;
        is_block = record {
          least = least;
          most = most;
          begins = o.1;
          directories = t.0;
          thumbnail = t.1;
          apart = t.2;
        };
        means = refl;
      },
    )

-- Each block has a meaning or a first fault.
pub meaning_or_fault : (b : List ℕ) → ((m : Meaning) × SaysExif b m) ⊎ ((c : Cause) × (p : ℕ) × FirstExifFault b c p)
meaning_or_fault b = go (first_false (checks b)) refl
  where
    go : (z : Option (Cause × ℕ)) → first_false (checks b) ≡ z → ((m : Meaning) × SaysExif b m) ⊎ ((c : Cause) × (p : ℕ) × FirstExifFault b c p)
    go None e = inl (judged_well b (none_false (checks b) e))
    go (Some (c, p)) e = inr (c, p, e)
