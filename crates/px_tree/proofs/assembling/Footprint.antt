-- Only the footprint matters: a block with the same bytes there has the same meaning.
use Rattle.std.proofs.Common.{◌≡◌, ℕ, ◌+◌, ◌<◌, ◌≤◌, ◌==◌, nat_le, inl, inr, true, false, Option, Some, None, option_map, option_and_then}
use Rattle.std.proofs.Common.{List, [], ◌∷◌, ◌++◌, map, filter_map, flat_map, length, take, drop, slice_index, refl, sym, ◌∙◌, ap, ap₂}
use Rattle.std.proofs.Common.{subst, arith, le-leb, leb-true, length-drop, get_or-take, get_or-drop}
use Rattle.std.specs.Prelude.{IfSome, option_to_list}
use Rattle.std.specs.List.{AllByRecursion, cons_option}
use Rattle.std.proofs.lemmas.Grind.{get_or_default_zero}
use Rattle.std.proofs.lemmas.Bool.{cond-true, cond-false, cases_Bool, and_parts, and_from}
use Rattle.std.proofs.lemmas.List.{same_lists, take-take, drop-take, length-take-le}
use Rattle.px_bytes.specs.declared.Order.{Order}
use Rattle.px_bytes.specs.Numbers.{number}
use Rattle.px_bytes.specs.Parts.{limit, part}
use Rattle.px_bytes.specs.Range.{Range, range, IsIn, AllApart}
use Rattle.px_bytes.specs.lemmas.EachLaws.{each_map, each_map₂, each_left, each_right}
use Rattle.px_field.specs.declared.Form.{Form}
use Rattle.px_field.specs.declared.Kind.TheVariants.{Of}
use Rattle.px_field.specs.Forms.{form_of}
use Rattle.px_field.specs.Values.{elements}
use Rattle.px_meaning.specs.declared.Dir.{Dir}
use Rattle.px_meaning.specs.declared.Dir.TheVariants.{Main, Exif, Interop, Gps, Thumb}
use Rattle.px_meaning.specs.declared.Role.{Role}
use Rattle.px_meaning.specs.declared.Role.TheVariants.{Plain, Widened, Forbidden, Record, JpegOffset, JpegLength, StripOffsets}
use Rattle.px_meaning.specs.declared.Role.TheVariants.{StripLengths, To}
use Rattle.px_meaning.specs.Roles.{exif_tag, gps_tag, interop_tag, record_tag, jpeg_offset_tag, jpeg_length_tag, strip_offsets_tag}
use Rattle.px_meaning.specs.Roles.{strip_lengths_tag, role}
use Rattle.px_meaning.specs.Tree.{Meaning}
use Rattle.px_meaning.specs.Entry.{Entry, short, long, table_size, has_table, table, entries, next, raw_size, is_placed, offset, raw}
use Rattle.px_meaning.specs.Entry.{has_raw}
use Rattle.px_meaning.specs.Entry.{IsEntry, Rising, entry_elements, field_value_in, unless_record, widened_value, record_in, field, fields}
use Rattle.px_meaning.specs.Entry.{IsDirectory}
use Rattle.px_meaning.specs.Directory.{pointer, dir_at, dirs, entries_at, entry_with, unless_zero, fields_at}
use Rattle.px_meaning.specs.Thumbnail.{both, are_paired, whole_number, numbers, numbers_in, jpeg_range, ranges_of, strip_ranges, bytes_of}
use Rattle.px_meaning.specs.Thumbnail.{IsInside, IsThumbnail}
use Rattle.px_meaning.specs.Footprint.{listed, placed_range, dir_ranges, thumb_ranges, footprint}
use Rattle.px_meaning.specs.Says.{record_at, exif_part, thumbnail, meaning, IsExif, SaysExif}
use Rattle.px_tree.proofs.lists.EachDir.{each_dir}

-- two blocks that agree at each byte of a range
abbrev pub AgreeIn : List ℕ → List ℕ → Range → Type 0
AgreeIn b c r = (p : ℕ) → IsIn p r → slice_index c p ≡ slice_index b p

same_part : (b c : List ℕ) (x n : ℕ) → length b ≤ length c → x + n ≤ length b → AgreeIn b c (range x n) → part c x n ≡ part b x n
same_part b c x n l i a =
    let lb : length (part b x n) ≡ n = length-take-le n (drop x b) (let e = length-drop x b in omega arith) in
    let lc : length (part c x n) ≡ n = length-take-le n (drop x c) (let e = length-drop x c in omega arith) in
    same_lists (part c x n) (part b x n) (lc ∙ sym lb) (λ k d h.
    let q : k < n = omega arith in
    get_or-take n (drop x c) k d q ∙ get_or-drop x c k d ∙ get_or_default_zero c (x + k) d (omega arith)
    ∙ a (x + k) (omega arith, omega arith)
    ∙ sym (get_or-take n (drop x b) k d q ∙ get_or-drop x b k d ∙ get_or_default_zero b (x + k) d (omega arith)))

filter_map_same : {X Z : Type 0} (g h : X → Option Z) (xs : List X) → AllByRecursion (λ x. g x ≡ h x) xs → filter_map g xs ≡ filter_map h xs
filter_map_same g h [] e = refl
filter_map_same g h (x ∷ xs) e = ap₂ cons_option e.0 (filter_map_same g h xs e.1)

-- a property of each range is one of each value's range
each_placed : (P : Range → Type 0) (o : Order) (es : List Entry) → AllByRecursion P (filter_map (placed_range o) es)
    → AllByRecursion (λ e. is_placed e ≡ true → P (range (offset o e) (raw_size e))) es
unfolding placed_range
each_placed P o [] h = tt
each_placed P o (e ∷ es) h = elim (cases_Bool (is_placed e)) [
  | inl t ↦ let k =
      subst (λ x. AllByRecursion P (cons_option x (filter_map (placed_range o) es)))
      (cond-true (is_placed e) (Some (range (offset o e) (raw_size e))) None t) h in
      (λ _. k.0, each_placed P o es k.1)
  | inr n ↦ let k =
      subst (λ x. AllByRecursion P (cons_option x (filter_map (placed_range o) es)))
      (cond-false (is_placed e) (Some (range (offset o e) (raw_size e))) None n) h in
      (λ t. absurd (true_false (sym t ∙ n)), each_placed P o es k)
]
  where
    true_false : true ≡ false → ⊥
    true_false q = cc

module _ (b c : List ℕ) (o : Order) (longer : length b ≤ length c) where
  -- ---- one directory

  module _ (d : Dir) (a : ℕ) (is : IsDirectory b o d a) (agree : AllByRecursion (AgreeIn b c) (dir_ranges b o a)) where
    n : ℕ
    n = short o (part b a 2)

    whole : a + table_size n ≤ length b × (1 ≤ n)
    unfolding n has_table
    whole = let h = and_parts (nat_le 1 (short o (part b a 2))) (nat_le (a + table_size (short o (part b a 2))) (length b)) is.there in
        (leb-true (a + table_size (short o (part b a 2))) (length b) h.1, leb-true 1 (short o (part b a 2)) h.0)

    same_bytes : part c a (table_size n) ≡ part b a (table_size n)
    unfolding n dir_ranges
    same_bytes = same_part b c a (table_size (short o (part b a 2))) longer whole.0 agree.0

    same_count : part c a 2 ≡ part b a 2
    same_count = sym (take-take 2 (table_size n) (drop a c) (omega arith)) ∙ ap (take 2) same_bytes
        ∙ take-take 2 (table_size n) (drop a b) (omega arith)

    there_too : has_table c o a ≡ true
    unfolding has_table n
    there_too = let k : short o (part c a 2) ≡ short o (part b a 2) = ap (number o 2) same_count in
        let p : 1 ≤ short o (part c a 2) = (let w = whole.1 in omega arith) in
        let q : a + table_size (short o (part c a 2)) ≤ length c = (let w = whole.0 in omega arith) in
        and_from (nat_le 1 (short o (part c a 2))) (nat_le (a + table_size (short o (part c a 2))) (length c))
        (le-leb 1 (short o (part c a 2)) p) (le-leb (a + table_size (short o (part c a 2))) (length c) q)

    pub same_table : table c o a ≡ table b o a
    unfolding table n
    same_table = cond-true (has_table c o a) (part c a (table_size (short o (part c a 2)))) [] there_too
        ∙ ap (λ x. part c a (table_size (number o 2 x))) same_count ∙ same_bytes
        ∙ sym (cond-true (has_table b o a) (part b a (table_size (short o (part b a 2)))) [] is.there)

    pub same_entries : entries_at c o a ≡ entries_at b o a
    same_entries = ap (entries o) same_table

    -- each entry has its bytes
    abbrev pub RawSame : Entry → Type 0
    RawSame e = (raw c o e ≡ raw b o e) × (has_raw c o e ≡ true)

    raw_same : (e : Entry) → IsEntry b o d e → (is_placed e ≡ true → AgreeIn b c (range (offset o e) (raw_size e))) → RawSame e
    unfolding raw has_raw
    raw_same e h k = elim (cases_Bool (is_placed e)) [
      | inl t ↦
          let i : offset o e + raw_size e ≤ length b =
          leb-true _ _ (sym (cond-true (is_placed e) (nat_le (offset o e + raw_size e) (length b)) true t) ∙ h.inside) in (
            cond-true (is_placed e) (part c (offset o e) (raw_size e)) (take (raw_size e) e.last) t
                ∙ same_part b c (offset o e) (raw_size e) longer i (k t)
                ∙ sym (cond-true (is_placed e) (part b (offset o e) (raw_size e)) (take (raw_size e) e.last) t),
            cond-true (is_placed e) (nat_le (offset o e + raw_size e) (length c)) true t
                ∙ le-leb (offset o e + raw_size e) (length c) (omega arith),
          )
      | inr t ↦ (
        cond-false (is_placed e) (part c (offset o e) (raw_size e)) (take (raw_size e) e.last) t
            ∙ sym (cond-false (is_placed e) (part b (offset o e) (raw_size e)) (take (raw_size e) e.last) t),
        cond-false (is_placed e) (nat_le (offset o e + raw_size e) (length c)) true t,
      )
    ]

    pub all_same : AllByRecursion RawSame (entries_at b o a)
    unfolding dir_ranges
    all_same =
        each_map₂ (IsEntry b o d) (λ e. is_placed e ≡ true → AgreeIn b c (range (offset o e) (raw_size e))) RawSame raw_same
        (entries_at b o a) is.each (each_placed (AgreeIn b c) o (entries_at b o a) agree.1)

    pub raws_same : AllByRecursion (λ e. raw c o e ≡ raw b o e) (entries_at b o a)
    raws_same = each_map RawSame (λ e. raw c o e ≡ raw b o e) (λ e h. h.0) (entries_at b o a) all_same

    value_same : (r : Role) (f : Form) (e : Entry) → raw c o e ≡ raw b o e → field_value_in c o e r f ≡ field_value_in b o e r f
    unfolding entry_elements
    value_same Plain f e h = ap (λ x. Some (record { kind = Of f; elements = elements o f e.count x })) h
    value_same Widened f e h = ap (λ x. Some (widened_value f (elements o f e.count x))) h
    value_same Record f e h = ap (λ x. unless_record (record_in f x) (record { kind = Of f; elements = elements o f e.count x })) h
    value_same Forbidden f e h = refl
    value_same JpegOffset f e h = refl
    value_same JpegLength f e h = refl
    value_same StripOffsets f e h = refl
    value_same StripLengths f e h = refl
    value_same (To e') f e h = refl

    field_same : (e : Entry) → raw c o e ≡ raw b o e → field c o d e ≡ field b o d e
    unfolding field
    field_same e h = ap (option_map (λ v. (e.tag, v))) (known (form_of e.code))
      where
        known : (f : Option Form) → option_and_then (field_value_in c o e (role d e.tag)) f ≡ option_and_then (field_value_in b o e (role d e.tag)) f
        known None = refl
        known (Some f) = value_same (role d e.tag) f e h

    pub same_fields : fields c o d a ≡ fields b o d a
    unfolding fields
    same_fields = ap (filter_map (field c o d)) same_entries
        ∙ filter_map_same (field c o d) (field b o d) (entries_at b o a) (each_map (λ e. raw c o e ≡ raw b o e)
        (λ e. field c o d e ≡ field b o d e) field_same (entries_at b o a) raws_same)

    pub same_ranges : dir_ranges c o a ≡ dir_ranges b o a
    unfolding dir_ranges
    same_ranges = ap₂ (λ x es. range a (table_size (number o 2 x)) ∷ filter_map (placed_range o) es) same_count same_entries

    pub directory_too : IsDirectory c o d a
    directory_too = record {
      there = there_too;
      rising = subst (λ es. Rising (map (λ e. e.tag) es)) (sym same_entries) is.rising;
      each = subst (AllByRecursion (IsEntry c o d)) (sym same_entries) (each_map₂ (IsEntry b o d) RawSame (IsEntry c o d)
          (λ e h k. record { known = h.known; allowed = h.allowed; formed = h.formed; inside = k.1 }) (entries_at b o a) is.each all_same);
    }

module _ (b c : List ℕ) (o : Order) (longer : length b ≤ length c) (most : length c ≤ limit) (x : IsExif b o)
    (agree : AllByRecursion (AgreeIn b c) (footprint b o)) where
  abbrev main : ℕ
  main = long o (part b 4 4)

  same_head : take 8 c ≡ take 8 b
  unfolding footprint
  same_head = same_part b c 0 8 longer x.least agree.0

  same_magic : take 4 c ≡ take 4 b
  same_magic = sym (take-take 4 8 c (omega arith)) ∙ ap (take 4) same_head ∙ take-take 4 8 b (omega arith)

  same_four : part c 4 4 ≡ part b 4 4
  same_four = sym (drop-take 4 4 c) ∙ ap (drop 4) same_head ∙ drop-take 4 4 b

  -- ---- each directory of b

  abbrev of_dir : Dir → List Range
  of_dir d = listed (option_map (dir_ranges b o) (dir_at b o d))

  abbrev of_thumb : List Range
  of_thumb = listed (option_map (thumb_ranges b o) (dir_at b o Thumb))

  agree_dirs : AllByRecursion (AgreeIn b c) (flat_map of_dir dirs)
  unfolding footprint
  agree_dirs = each_left (AgreeIn b c) (flat_map of_dir dirs) of_thumb agree.1

  agree_thumb : AllByRecursion (AgreeIn b c) of_thumb
  unfolding footprint
  agree_thumb = each_right (AgreeIn b c) (flat_map of_dir dirs) of_thumb agree.1

  agree_dir : (d : Dir) → AllByRecursion (AgreeIn b c) (of_dir d)
  agree_dir d = picked (AgreeIn b c) of_dir d agree_dirs
    where
      picked : (P : Range → Type 0) (G : Dir → List Range) (d : Dir) → AllByRecursion P (flat_map G dirs) → AllByRecursion P (G d)
      picked P G Main h = each_left P (G Main) _ h
      picked P G Exif h = each_left P (G Exif) _ (each_right P (G Main) _ h)
      picked P G Interop h = each_left P (G Interop) _ (each_right P (G Exif) _ (each_right P (G Main) _ h))
      picked P G Gps h = each_left P (G Gps) _ (each_right P (G Interop) _ (each_right P (G Exif) _ (each_right P (G Main) _ h)))
      picked P G Thumb h =
          each_left P (G Thumb) [] (each_right P (G Gps) _ (each_right P (G Interop) _
          (each_right P (G Exif) _ (each_right P (G Main) _ h))))

  in_order : (d : Dir) → IfSome (dir_at b o d) (IsDirectory b o d)
  in_order d = each_dir (λ d. IfSome (dir_at b o d) (IsDirectory b o d)) x.directories d

  module _ (d : Dir) (a : ℕ) (at : dir_at b o d ≡ Some a) where
    dir_is : IsDirectory b o d a
    dir_is = subst (λ z. IfSome z (IsDirectory b o d)) at (in_order d)

    dir_agrees : AllByRecursion (AgreeIn b c) (dir_ranges b o a)
    dir_agrees = subst (λ z. AllByRecursion (AgreeIn b c) (listed (option_map (dir_ranges b o) z))) at (agree_dir d)

    table_at : table c o a ≡ table b o a
    table_at = same_table b c o longer d a dir_is dir_agrees

    entries_are : entries_at c o a ≡ entries_at b o a
    entries_are = same_entries b c o longer d a dir_is dir_agrees

    fields_are : fields c o d a ≡ fields b o d a
    fields_are = same_fields b c o longer d a dir_is dir_agrees

    ranges_are : dir_ranges c o a ≡ dir_ranges b o a
    ranges_are = same_ranges b c o longer d a dir_is dir_agrees

    dir_too : IsDirectory c o d a
    dir_too = directory_too b c o longer d a dir_is dir_agrees

    raws : AllByRecursion (λ e. raw c o e ≡ raw b o e) (entries_at b o a)
    raws = raws_same b c o longer d a dir_is dir_agrees

  main_there : dir_at b o Main ≡ Some main
  unfolding dir_at
  main_there = refl

  main_entries : entries_at c o (long o (part c 4 4)) ≡ entries_at b o main
  main_entries = ap (λ z. entries_at c o (number o 4 z)) same_four ∙ entries_are Main main main_there

  interop_same : (z : Option ℕ) → dir_at b o Exif ≡ z → option_and_then (λ a. pointer o interop_tag (entries_at c o a)) z ≡ option_and_then
      (λ a. pointer o interop_tag (entries_at b o a)) z
  interop_same None q = refl
  interop_same (Some a) q = ap (pointer o interop_tag) (entries_are Exif a q)

  same_dirs : (d : Dir) → dir_at c o d ≡ dir_at b o d
  unfolding dir_at
  same_dirs Main = ap (λ z. Some (number o 4 z)) same_four
  same_dirs Exif = ap (pointer o exif_tag) main_entries
  same_dirs Interop = ap (λ es. option_and_then (λ a. pointer o interop_tag (entries_at c o a)) (pointer o exif_tag es)) main_entries
      ∙ interop_same (pointer o exif_tag (entries_at b o main)) refl
  same_dirs Gps = ap (pointer o gps_tag) main_entries
  same_dirs Thumb = ap unless_zero (ap (λ z. next o (table c o (number o 4 z))) same_four ∙ ap (next o) (table_at Main main main_there))

  dir_too_at : (d : Dir) (z : Option ℕ) → dir_at b o d ≡ z → IfSome (dir_at c o d) (IsDirectory c o d)
  dir_too_at d None q = subst (λ z. IfSome z (IsDirectory c o d)) (sym (same_dirs d ∙ q)) tt
  dir_too_at d (Some a) q = subst (λ z. IfSome z (IsDirectory c o d)) (sym (same_dirs d ∙ q)) (dir_too d a q)

  -- ---- the parts

  opt_map : {X : Type 0} (g h : ℕ → X) (d : Dir) → ((a : ℕ) → dir_at b o d ≡ Some a → g a ≡ h a)
      → option_map g (dir_at c o d) ≡ option_map h (dir_at b o d)
  opt_map g h d e = ap (option_map g) (same_dirs d) ∙ go (dir_at b o d) refl
    where
      go : (z : Option ℕ) → dir_at b o d ≡ z → option_map g z ≡ option_map h z
      go None q = refl
      go (Some a) q = ap (λ y. Some y) (e a q)

  interop_fields : fields_at c o Interop ≡ fields_at b o Interop
  interop_fields = opt_map (fields c o Interop) (fields b o Interop) Interop (fields_are Interop)

  exif_same : (a : ℕ) → dir_at b o Exif ≡ Some a → exif_part c o a ≡ exif_part b o a
  unfolding exif_part
  exif_same a q i = record { fields = fields_are Exif a q i; interop = interop_fields i }

  -- an entry that is found has its bytes
  found_raw : (P : Entry → Type 0) (t : ℕ) (es : List Entry) → AllByRecursion P es → IfSome (entry_with t es) P
  found_raw P t [] h = tt
  found_raw P t (e ∷ es) h = elim (cases_Bool (e.tag == t)) [
    | inl q ↦ subst (λ z. IfSome z P) (sym (cond-true (e.tag == t) (Some e) (entry_with t es) q)) h.0
    | inr q ↦ subst (λ z. IfSome z P) (sym (cond-false (e.tag == t) (Some e) (entry_with t es) q)) (found_raw P t es h.1)
  ]

  numbers_same : (e : Entry) → raw c o e ≡ raw b o e → numbers c o e ≡ numbers b o e
  unfolding numbers entry_elements
  numbers_same e h = known (form_of e.code)
    where
      known : (f : Option Form) → numbers_in c o e f ≡ numbers_in b o e f
      known None = refl
      known (Some f) = ap (λ x. map whole_number (elements o f e.count x)) h

  module _ (a : ℕ) (at : dir_at b o Thumb ≡ Some a) where
    abbrev es : List Entry
    es = entries_at b o a

    strips_same : strip_ranges c o (entries_at c o a) ≡ strip_ranges b o (entries_at b o a)
    unfolding strip_ranges
    strips_same = ap (strip_ranges c o) (entries_are Thumb a at)
        ∙ both_same (entry_with strip_offsets_tag es) (entry_with strip_lengths_tag es)
        (found_raw (λ e. raw c o e ≡ raw b o e) strip_offsets_tag es (raws Thumb a at))
        (found_raw (λ e. raw c o e ≡ raw b o e) strip_lengths_tag es (raws Thumb a at))
      where
        both_same : (u w : Option Entry) → IfSome u (λ e. raw c o e ≡ raw b o e) → IfSome w (λ e. raw c o e ≡ raw b o e)
            → both (λ x n. ranges_of (numbers c o x) (numbers c o n)) u w ≡ both (λ x n. ranges_of (numbers b o x) (numbers b o n)) u w
        both_same None w h k = refl
        both_same (Some u) None h k = refl
        both_same (Some u) (Some w) h k = ap₂ (λ x n. Some (ranges_of x n)) (numbers_same u h) (numbers_same w k)

    jpeg_same : jpeg_range o (entries_at c o a) ≡ jpeg_range o es
    jpeg_same = ap (jpeg_range o) (entries_are Thumb a at)

    thumb_is : IsThumbnail b o a
    thumb_is = subst (λ z. IfSome z (IsThumbnail b o)) at x.thumbnail

    parts_agree : AllByRecursion (AgreeIn b c) (option_to_list (jpeg_range o es) ++ listed (strip_ranges b o es))
    unfolding thumb_ranges
    parts_agree = subst (λ z. AllByRecursion (AgreeIn b c) (listed (option_map (thumb_ranges b o) z))) at agree_thumb

    jpeg_bytes : (r : Option Range) → IfSome r (IsInside b) → AllByRecursion (AgreeIn b c) (option_to_list r)
        → option_map (bytes_of c) r ≡ option_map (bytes_of b) r
    jpeg_bytes None i h = refl
    jpeg_bytes (Some r) i h = ap (λ y. Some y) (same_part b c r.start r.size longer i h.0)

    each_strip : (rs : List Range) → AllByRecursion (IsInside b) rs → AllByRecursion (AgreeIn b c) rs
        → map (bytes_of c) rs ≡ map (bytes_of b) rs
    each_strip [] i h = refl
    each_strip (r ∷ rs) i h = ap₂ (λ y ys. y ∷ ys) (same_part b c r.start r.size longer i.0 h.0) (each_strip rs i.1 h.1)

    strip_bytes : (r : Option (List Range)) → IfSome r (AllByRecursion (IsInside b)) → AllByRecursion (AgreeIn b c) (listed r)
        → option_map (map (bytes_of c)) r ≡ option_map (map (bytes_of b)) r
    strip_bytes None i h = refl
    strip_bytes (Some rs) i h = ap (λ y. Some y) (each_strip rs i h)

    thumb_same : thumbnail c o a ≡ thumbnail b o a
    unfolding thumbnail
    thumb_same i = record {
      fields = fields_are Thumb a at i;
      jpeg = (ap (option_map (bytes_of c)) jpeg_same
          ∙ jpeg_bytes (jpeg_range o es) thumb_is.jpeg_inside (each_left (AgreeIn b c) (option_to_list (jpeg_range o es)) _ parts_agree)) i;
      strips = (ap (option_map (map (bytes_of c))) strips_same
          ∙ strip_bytes (strip_ranges b o es) thumb_is.strips_inside (each_right (AgreeIn b c) (option_to_list (jpeg_range o es)) _
          parts_agree)) i;
    }

    thumb_ranges_same : thumb_ranges c o a ≡ thumb_ranges b o a
    unfolding thumb_ranges
    thumb_ranges_same = ap₂ (λ j s. option_to_list j ++ listed s) jpeg_same strips_same

    still_inside : (r : Option Range) → IfSome r (IsInside b) → IfSome r (IsInside c)
    still_inside None h = tt
    still_inside (Some r) h = omega arith

    all_inside : (r : Option (List Range)) → IfSome r (AllByRecursion (IsInside b)) → IfSome r (AllByRecursion (IsInside c))
    all_inside None h = tt
    all_inside (Some rs) h = each_map (IsInside b) (IsInside c) (λ r h. omega arith) rs h

    thumb_too : IsThumbnail c o a
    thumb_too = record {
      jpeg_pair = ap (λ es. are_paired (entry_with jpeg_offset_tag es) (entry_with jpeg_length_tag es)) (entries_are Thumb a at)
          ∙ thumb_is.jpeg_pair;
      jpeg_inside = subst (λ r. IfSome r (IsInside c)) (sym jpeg_same) (still_inside (jpeg_range o es) thumb_is.jpeg_inside);
      strip_pair = ap (λ es. are_paired (entry_with strip_offsets_tag es) (entry_with strip_lengths_tag es)) (entries_are Thumb a at)
          ∙ thumb_is.strip_pair;
      strip_counts =
          subst (λ es. option_map (λ (e : Entry). e.count) (entry_with strip_offsets_tag es) ≡ option_map (λ (e : Entry). e.count)
          (entry_with strip_lengths_tag es)) (sym (entries_are Thumb a at)) thumb_is.strip_counts;
      strips_inside =
          subst (λ r. IfSome r (AllByRecursion (IsInside c))) (sym strips_same) (all_inside (strip_ranges b o es) thumb_is.strips_inside);
      ends = ap (next o) (table_at Thumb a at) ∙ thumb_is.ends;
    }

  thumb_too_at : (z : Option ℕ) → dir_at b o Thumb ≡ z → IfSome (dir_at c o Thumb) (IsThumbnail c o)
  thumb_too_at None q = subst (λ z. IfSome z (IsThumbnail c o)) (sym (same_dirs Thumb ∙ q)) tt
  thumb_too_at (Some a) q = subst (λ z. IfSome z (IsThumbnail c o)) (sym (same_dirs Thumb ∙ q)) (thumb_too a q)

  same_record : record_at c o (long o (part c 4 4)) ≡ record_at b o main
  unfolding record_at
  same_record =
      ap (λ es. option_and_then (λ e. option_and_then (λ f. record_in f (raw c o e)) (form_of e.code)) (entry_with record_tag es))
      main_entries
      ∙ read (entry_with record_tag (entries_at b o main)) (found_raw (λ e. raw c o e ≡ raw b o e) record_tag (entries_at b o main)
      (raws Main main main_there))
    where
      read : (z : Option Entry) → IfSome z (λ e. raw c o e ≡ raw b o e)
          → option_and_then (λ e. option_and_then (λ f. record_in f (raw c o e)) (form_of e.code)) z ≡ option_and_then
          (λ e. option_and_then (λ f. record_in f (raw b o e)) (form_of e.code)) z
      read None h = refl
      read (Some e) h = ap (λ x. option_and_then (λ f. record_in f x) (form_of e.code)) h

  pub same_meaning : meaning c o ≡ meaning b o
  unfolding meaning
  same_meaning i = record {
    main = (ap (λ z. fields c o Main (number o 4 z)) same_four ∙ fields_are Main main main_there) i;
    iptc = same_record i;
    exif = opt_map (exif_part c o) (exif_part b o) Exif exif_same i;
    gps = opt_map (fields c o Gps) (fields b o Gps) Gps (fields_are Gps) i;
    thumb = opt_map (thumbnail c o) (thumbnail b o) Thumb thumb_same i;
  }

  pub same_footprint : footprint c o ≡ footprint b o
  unfolding footprint
  same_footprint = ap₂ (λ g t. range 0 8 ∷ g ++ t)
      (ap₂ (λ r1 y. r1 ++ y) (one Main) (ap₂ (λ r2 y. r2 ++ y) (one Exif) (ap₂ (λ r3 y. r3 ++ y) (one Interop)
      (ap₂ (λ r4 y. r4 ++ y) (one Gps) (ap (λ r5. r5 ++ []) (one Thumb))))))
      (ap listed (opt_map (thumb_ranges c o) (thumb_ranges b o) Thumb thumb_ranges_same))
    where
      one : (d : Dir) → listed (option_map (dir_ranges c o) (dir_at c o d)) ≡ listed (option_map (dir_ranges b o) (dir_at b o d))
      one d = ap listed (opt_map (dir_ranges c o) (dir_ranges b o) d (ranges_are d))

  pub exif_too : IsExif c o
  exif_too = record {
    least = (let e = x.least in omega arith);
    most = most;
    begins = same_magic ∙ x.begins;
    directories = (
      dir_too_at Main (dir_at b o Main) refl,
      (
        dir_too_at Exif (dir_at b o Exif) refl,
        (
          dir_too_at Interop (dir_at b o Interop) refl,
          (
            dir_too_at Gps (dir_at b o Gps) refl,
            (dir_too_at Thumb (dir_at b o Thumb) refl, tt),
          ),
        ),
      ),
    );
    thumbnail = thumb_too_at (dir_at b o Thumb) refl;
    apart = subst AllApart (sym same_footprint) x.apart;
  }

-- Only the footprint counts.
pub footprint_counts : (b c : List ℕ) (m : Meaning) (s : SaysExif b m) → length b ≤ length c → length c ≤ limit
    → AllByRecursion (AgreeIn b c) (footprint b s.order) → SaysExif c m
footprint_counts b c m s l k a =
    record {
      order =
          s.order;
      is_block = exif_too b c s.order l k s.is_block a;
      means = s.means ∙ sym (same_meaning b c s.order l k s.is_block a);
    }
