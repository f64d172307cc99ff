-- The meaning of a block fits: the tree, and each directory has an entry.
use Rattle.std.proofs.Common.{◌≡◌, ℕ, suc, ◌+◌, ◌*◌, ◌<◌, ◌≤◌, ◌==◌, nat_lt, inl, inr, true, false, ◌&&◌, Option, Some, None, is_some}
use Rattle.std.proofs.Common.{option_map, option_and_then, find, List, [], ◌∷◌, map, filter_map, length, take, drop, refl, sym, ◌∙◌, ap}
use Rattle.std.proofs.Common.{ap₂, subst, arith, ltb-false, eq-eqb, ne_eqb, length-take, length-drop}
use Rattle.std.specs.Prelude.{IfSome, ◌⊎◌}
use Rattle.std.specs.List.{AllByRecursion, cons_option}
use Rattle.std.proofs.lemmas.Bool.{cond-true, cond-false, cases_Bool, cond_both}
use Rattle.std.proofs.lemmas.List.{length-map}
use Rattle.std.proofs.Math.Nat.{le-mul_of_pos_right}
use Rattle.px_bytes.specs.declared.Order.{Order}
use Rattle.px_bytes.specs.Numbers.{AreBytes}
use Rattle.px_bytes.specs.Parts.{limit, part, pieces}
use Rattle.px_bytes.specs.Range.{Range, range}
use Rattle.px_bytes.specs.lemmas.EachLaws.{each_map, each_map₂}
use Rattle.px_field.specs.declared.Form.{Form}
use Rattle.px_field.specs.declared.Form.TheVariants.{Byte, Ascii, Short, Long, Rational, SByte, Undefined, SShort, SLong, SRational, Float}
use Rattle.px_field.specs.declared.Form.TheVariants.{Double, Utf8}
use Rattle.px_field.specs.declared.Kind.TheVariants.{Of}
use Rattle.px_field.specs.Forms.{form_of, size}
use Rattle.px_field.specs.Values.{Value, elements}
use Rattle.px_field.specs.lemmas.ElementLaws.{size_pos}
use Rattle.px_field.specs.lemmas.PieceLaws.{length_pieces}
use Rattle.px_field.specs.lemmas.ValueLaws.{length_elements}
use Rattle.px_iim.specs.Record.{SaysIim}
use Rattle.px_iim.specs.lemmas.RecordLaws.{computed_is_meaning, meaning_is_record}
use Rattle.px_iim.specs.lemmas.BoundLaws.{normal_bound}
use Rattle.px_meaning.specs.Iim.{Iim, iim_of, IsRecord, normal_iim}
use Rattle.px_meaning.specs.declared.roles.Dir.{Dir}
use Rattle.px_meaning.specs.declared.roles.Dir.TheVariants.{Main, Exif, Interop, Gps, Thumb}
use Rattle.px_meaning.specs.declared.roles.Role.{Role}
use Rattle.px_meaning.specs.declared.roles.Role.TheVariants.{Plain, Widened, Forbidden, Record, To}
use Rattle.px_meaning.specs.Roles.{exif_tag, gps_tag, interop_tag, record_tag, jpeg_offset_tag, jpeg_length_tag, strip_offsets_tag}
use Rattle.px_meaning.specs.Roles.{strip_lengths_tag, at_tag, special, offset_tags, role_or, role}
use Rattle.px_meaning.specs.Tree.{Fields, Meaning}
use Rattle.px_meaning.specs.Entry.{short, Entry, entry, table, entries, sized, raw_size, is_placed, offset, raw, has_raw, is_one_long}
use Rattle.px_meaning.specs.Entry.{has_form, is_allowed, IsEntry, Rising, IsDirectory, entry_elements, widened_value, record_in}
use Rattle.px_meaning.specs.Entry.{unless_record}
use Rattle.px_meaning.specs.Entry.{field_value_in, field, fields}
use Rattle.px_meaning.specs.Directory.{entries_at, entry_with, pointer, main_at, dir_at, fields_at}
use Rattle.px_meaning.specs.Thumbnail.{both, are_paired, whole_number, numbers_in, numbers, bytes_of, jpeg_range, ranges_of, strip_ranges}
use Rattle.px_meaning.specs.Thumbnail.{IsThumbnail}
use Rattle.px_meaning.specs.Says.{record_at, exif_part, thumbnail, meaning, IsExif, SaysExif}
use Rattle.px_meaning.specs.Writable.{Item, Iptc, AtJpeg, JpegSize, AtStrips, StripSizes, put, put_some, link, field_items, main_items}
use Rattle.px_meaning.specs.Writable.{exif_items}
use Rattle.px_meaning.specs.Writable.{thumb_items, items, AreWritableFields, IsWritableExif, IsWritableThumb, IsBytes, IsWritable}
use Rattle.px_meaning.specs.lemmas.TagLaws.{each_at}
use Rattle.px_meaning.specs.lemmas.InRange.{bytes_part}
use Rattle.px_meaning.specs.lemmas.FitsBack.{entry_whole, count_is, Plausible, entries_plausible}
use Rattle.px_meaning.specs.lemmas.FitsBack.{bytes_raw, length_raw, value_of, fields_fit}

-- the facts about records that are used: bytes have a valid one, with a normal form no longer than twice the bytes
iim_has_meaning : (x : List ℕ) (i : Iim) → AreBytes x → iim_of x ≡ Some i → IsRecord i × (length (normal_iim i) ≤ 2 * length x)
iim_has_meaning x i h e = let s : SaysIim x i = computed_is_meaning x i e in (meaning_is_record x i h s, normal_bound x i s)

-- a role by its table
role_cases : (d : Dir) (t : ℕ) (P : Role → Type 0) → AllByRecursion (λ x. x.0 ≡ t → P x.1) (special d) → P Forbidden → P Plain
    → P (role d t)
unfolding role
role_cases d t P s f p = first (at_tag t (special d)) refl
  where
    second : (x : Option Role) → at_tag t offset_tags ≡ x → P (role_or x Plain)
    second None q = p
    second (Some r) q = each_at (λ (y : ℕ × Role). y.0 ≡ t → P y.1) t r offset_tags (
      (λ _. f),
      (
        (λ _. f),
        (
          (λ _. f),
          (
            (λ _. f),
            (
              (λ _. f),
              (
                (λ _. f),
                (
                  (λ _. f),
                  ((λ _. f), ((λ _. f), ((λ _. f), ((λ _. f), ((λ _. f), ((λ _. f), tt)))))),
                ),
              ),
            ),
          ),
        ),
      ),
    ) q refl

    first : (x : Option Role) → at_tag t (special d) ≡ x → P (role_or x (role_or (at_tag t offset_tags) Plain))
    first None q = second (at_tag t offset_tags) refl
    first (Some r) q = each_at (λ (y : ℕ × Role). y.0 ≡ t → P y.1) t r (special d) s q refl

length_put : (t : ℕ) (x : Item) (ys : List (ℕ × Item)) → length (put t x ys) ≡ length ys + 1
length_put t x [] = omega arith
length_put t x (y ∷ ys) =
    cond_both (nat_lt t y.0) ((t, x) ∷ y ∷ ys) (y ∷ put t x ys) (λ zs. length zs ≡ suc (length ys) + 1) (λ _. omega arith)
    (λ _. let e = length_put t x ys in omega arith)

put_some_grows : (t : ℕ) (o : Option Item) (ys : List (ℕ × Item)) → length ys ≤ length (put_some t o ys)
put_some_grows t None ys = omega arith
put_some_grows t (Some x) ys = let e = length_put t x ys in omega arith

has_one : (t : ℕ) (o : Option Item) (ys : List (ℕ × Item)) → is_some o ≡ true → 1 ≤ length (put_some t o ys)
has_one t None ys h = cc
has_one t (Some x) ys h = let e = length_put t x ys in omega arith

length_fields : (fs : Fields) → length (field_items fs) ≡ length fs
length_fields [] = refl
length_fields (p ∷ fs) = ap suc (length_fields fs)

-- the first entry of that tag
entry_with_unique : (t : ℕ) (es : List Entry) → Rising (map (λ e. e.tag) es) → AllByRecursion (λ e. e.tag ≡ t → entry_with t es ≡ Some e) es
entry_with_unique t [] r = tt
entry_with_unique t (e ∷ es) r = (
  (λ q. cond-true (e.tag == t) (Some e) (entry_with t es) (eq-eqb e.tag t q)),
  later es r.0
      (entry_with_unique t es r.1),
)
  where
    later : (fs : List Entry) → AllByRecursion (λ u. e.tag < u) (map (λ e. e.tag) fs)
        → AllByRecursion (λ f. f.tag ≡ t → entry_with t es ≡ Some f) fs
        → AllByRecursion (λ f. f.tag ≡ t → entry_with t (e ∷ es) ≡ Some f) fs
    later [] h k = tt
    later (f ∷ fs) h k = (
      (λ q. cond-false (e.tag == t) (Some e) (entry_with t es) (ne_eqb e.tag t (λ p. let l = h.0 in omega arith))
          ∙ k.0 q),
      later fs h.1 k.1,
    )

entry_with_found : (P : Entry → Type 0) (t : ℕ) (es : List Entry) → AllByRecursion P es → IfSome (entry_with t es) P
entry_with_found P t [] h = tt
entry_with_found P t (e ∷ es) h = elim (cases_Bool (e.tag == t)) [
  | inl q ↦ subst (λ z. IfSome z P) (sym (cond-true (e.tag == t) (Some e) (entry_with t es) q)) h.0
  | inr q ↦ subst (λ z. IfSome z P) (sym (cond-false (e.tag == t) (Some e) (entry_with t es) q)) (entry_with_found P t es h.1)
]

module _ (b : List ℕ) (o : Order) (bytes : AreBytes b) (x : IsExif b o) where
  most : length b ≤ limit
  most = x.most

  short_part : (a n : ℕ) → length (part b a n) ≤ limit
  short_part a n = let t = length-take n (drop a b) in let d = length-drop a b in let m = most in omega arith

  short_raw : (e : Entry) → length (raw b o e) ≤ limit
  unfolding raw
  short_raw e =
      cond_both (is_placed e) (part b (offset o e) (raw_size e)) (take (raw_size e) e.last) (λ y. length y ≤ limit)
      (λ _. short_part (offset o e) (raw_size e))
      (λ q. let k = ltb-false 4 (raw_size e) q in let t = length-take (raw_size e) e.last in omega arith)

  abbrev IsBoth : Dir → Entry → Type 0
  IsBoth d e = Plausible e × IsEntry b o d e

  in_order : (d : Dir) → IfSome (dir_at b o d) (IsDirectory b o d)
  in_order Main = x.directories.0
  in_order Exif = x.directories.1.0
  in_order Interop = x.directories.1.1.0
  in_order Gps = x.directories.1.1.1.0
  in_order Thumb = x.directories.1.1.1.1.0

  module _ (d : Dir) (a : ℕ) (at : dir_at b o d ≡ Some a) where
    is : IsDirectory b o d a
    is = subst (λ z. IfSome z (IsDirectory b o d)) at (in_order d)

    fit : AreWritableFields d (fields b o d a)
    fit = fields_fit b o bytes d a is

    both_each : AllByRecursion (IsBoth d) (entries_at b o a)
    both_each =
        each_map₂ Plausible (IsEntry b o d) (IsBoth d) (λ e p i. (p, i)) (entries_at b o a) (entries_plausible b o bytes d a is) is.each

  -- ---- the caption record

  abbrev main : ℕ
  main = main_at b o

  main_is : dir_at b o Main ≡ Some main
  unfolding dir_at
  main_is = refl

  record_entry : Entry → Option Iim
  record_entry e = option_and_then (λ f. record_in f (raw b o e)) (form_of e.code)

  record_has_meaning : (f : Form) (y : List ℕ) (i : Iim) → AreBytes y → record_in f y ≡ Some i
      → IsRecord i × (length (normal_iim i) ≤ 2 * length y)
  record_has_meaning Byte y i h e = iim_has_meaning y i h e
  record_has_meaning Undefined y i h e = iim_has_meaning y i h e
  record_has_meaning Ascii y i h e = cc
  record_has_meaning Short y i h e = cc
  record_has_meaning Long y i h e = cc
  record_has_meaning Rational y i h e = cc
  record_has_meaning SByte y i h e = cc
  record_has_meaning SShort y i h e = cc
  record_has_meaning SLong y i h e = cc
  record_has_meaning SRational y i h e = cc
  record_has_meaning Float y i h e = cc
  record_has_meaning Double y i h e = cc
  record_has_meaning Utf8 y i h e = cc

  record_fits : (z : Option Entry) → IfSome z Plausible → IfSome (option_and_then record_entry z)
      (λ i. IsRecord i × (length (normal_iim i) ≤ 2 * limit))
  unfolding record_entry
  record_fits None h = tt
  record_fits (Some e) h = go (form_of e.code)
    where
      raw_record_fits : (f : Form) (c : Option Iim) → record_in f (raw b o e) ≡ c
          → IfSome c (λ i. IsRecord i × (length (normal_iim i) ≤ 2 * limit))
      raw_record_fits f None q = tt
      raw_record_fits f (Some i) q = let r = record_has_meaning f (raw b o e) i (bytes_raw b o bytes e h.bytes) q in
          (r.0, (let s = short_raw e in let l = r.1 in omega arith))

      go : (f : Option Form) → IfSome (option_and_then (λ f. record_in f (raw b o e)) f)
          (λ i. IsRecord i × (length (normal_iim i) ≤ 2 * limit))
      go None = tt
      go (Some f) = raw_record_fits f (record_in f (raw b o e)) refl

  iptc_fits : IfSome (record_at b o main) (λ i. IsRecord i × (length (normal_iim i) ≤ 2 * limit))
  unfolding record_at record_entry
  iptc_fits =
      record_fits (entry_with record_tag (entries_at b o main)) (entry_with_found Plausible record_tag (entries_at b o main)
      (entries_plausible b o bytes Main main (is Main main main_is)))

  record_role : role Main record_tag ≡ Record
  unfolding role
  record_role = refl

  -- an entry that is a record is no field
  no_field_value : (e : Entry) (i : Iim) → e.tag ≡ record_tag → record_entry e ≡ Some i → (v : Value) → value_of b o bytes Main e ≡ Some v
      → ⊥
  unfolding record_entry
  no_field_value e i t c v h =
      go (form_of e.code) c (subst (λ r. option_and_then (field_value_in b o e r) (form_of e.code) ≡ Some v) (ap (role Main) t
      ∙ record_role) h)
    where
      go : (f : Option Form) → option_and_then (λ f. record_in f (raw b o e)) f ≡ Some i
          → option_and_then (field_value_in b o e Record) f ≡ Some v → ⊥
      go None p q = cc
      go (Some f) p q =
          let k : unless_record (record_in f (raw b o e)) (record { kind = Of f; elements = entry_elements b o e f }) ≡ Some v = q in
          none (subst (λ c. unless_record c (record { kind = Of f; elements = entry_elements b o e f }) ≡ Some v) p k)
        where
          none : None ≡ Some v → ⊥
          none n = cc

  -- a property of each value that an entry has
  each_value : (P : ℕ × Value → Type 0) (val : Entry → Option Value) (es : List Entry)
      → AllByRecursion (λ e. (v : Value) → val e ≡ Some v → P (e.tag, v)) es
      → AllByRecursion P (filter_map (λ e. option_map (λ v. (e.tag, v)) (val e)) es)
  each_value P val [] h = tt
  each_value P val (e ∷ es) h = go (val e) refl (each_value P val es h.1)
    where
      go : (x : Option Value) → val e ≡ x → AllByRecursion P (filter_map (λ e. option_map (λ v. (e.tag, v)) (val e)) es)
          → AllByRecursion P (cons_option (option_map (λ v. (e.tag, v)) x) (filter_map (λ e. option_map (λ v. (e.tag, v)) (val e)) es))
      go None q k = k
      go (Some v) q k = (h.0 v q, k)

  no_second_in : (i : Iim) → record_at b o main ≡ Some i → AllByRecursion (λ p. (p.0 ≡ record_tag) → ⊥) (fields b o Main main)
  unfolding fields field record_at record_entry
  no_second_in i q = each_value (λ p. (p.0 ≡ record_tag) → ⊥) (value_of b o bytes Main) (entries_at b o main)
      (each_map (λ e. e.tag ≡ record_tag → entry_with record_tag (entries_at b o main) ≡ Some e)
      (λ e. (v : Value) → value_of b o bytes Main e ≡ Some v → (e.tag ≡ record_tag) → ⊥)
      (λ e u v h t. no_field_value e i t (sym (ap (option_and_then record_entry) (u t)) ∙ q) v h)
      (entries_at b o main) (entry_with_unique record_tag (entries_at b o main) (is Main main main_is).rising))

  no_second_is : (c : Option Iim) → record_at b o main ≡ c → IfSome c
      (λ i. AllByRecursion (λ p. (p.0 ≡ record_tag) → ⊥) (fields b o Main main))
  no_second_is None q = tt
  no_second_is (Some i) q = no_second_in i q

  -- ---- the directories

  opt_fit : (d : Dir) (z : Option ℕ) → dir_at b o d ≡ z → IfSome (option_map (fields b o d) z) (AreWritableFields d)
  opt_fit d None q = tt
  opt_fit d (Some a) q = fit d a q

  exif_fit : (z : Option ℕ) → dir_at b o Exif ≡ z → IfSome (option_map (exif_part b o) z) IsWritableExif
  unfolding exif_part
  exif_fit None q = tt
  exif_fit (Some a) q = record { fields = fit Exif a q; interop = opt_fit Interop (dir_at b o Interop) refl }

  is_bytes : (r : Range) → IsBytes (bytes_of b r)
  is_bytes r = record { most = short_part r.start r.size; each = bytes_part b r.start r.size bytes }

  jpeg_fit : (r : Option Range) → IfSome (option_map (bytes_of b) r) IsBytes
  jpeg_fit None = tt
  jpeg_fit (Some r) = is_bytes r

  strips_fit : (rs : List Range) → AllByRecursion IsBytes (map (bytes_of b) rs)
  strips_fit [] = tt
  strips_fit (r ∷ rs) = (is_bytes r, strips_fit rs)

  few_ranges : (xs ns : List ℕ) → length (ranges_of xs ns) ≤ length xs
  few_ranges [] ns = omega arith
  few_ranges (y ∷ xs) [] = omega arith
  few_ranges (y ∷ xs) (n ∷ ns) = let e = few_ranges xs ns in omega arith

  few_numbers : (e : Entry) → length e.last ≡ 4 → has_raw b o e ≡ true → length (numbers b o e) ≤ limit
  unfolding numbers entry_elements raw_size
  few_numbers e l h = known (form_of e.code) refl
    where
      known : (f : Option Form) → form_of e.code ≡ f → length (numbers_in b o e f) ≤ limit
      known None q = omega arith
      known (Some f) q =
          let m = length-map (elements o f e.count (raw b o e)) whole_number in
          let k = length_elements o f e.count (raw b o e) in
          let r : length (raw b o e) ≡ e.count * size f = length_raw b o bytes e l h ∙ ap (λ f. sized f e.count) q in
          let s = short_raw e in
          let c = le-mul_of_pos_right e.count (size_pos f) in
          omega arith

  count_strips : (u w : Option Entry) → IfSome u (IsBoth Thumb)
      → IfSome (option_map (map (bytes_of b)) (both (λ x n. ranges_of (numbers b o x) (numbers b o n)) u w))
      (λ s. (length s ≤ limit) × AllByRecursion IsBytes s)
  count_strips None w h = tt
  count_strips (Some u) None h = tt
  count_strips (Some u) (Some w) h =
      let m = length-map (ranges_of (numbers b o u) (numbers b o w)) (bytes_of b) in
      let f = few_ranges (numbers b o u) (numbers b o w) in
      let k : length (numbers b o u) ≤ limit = few_numbers u h.0.four h.1.inside in
      (omega arith, strips_fit (ranges_of (numbers b o u) (numbers b o w)))

  thumb_fit : (z : Option ℕ) → dir_at b o Thumb ≡ z → IfSome (option_map (thumbnail b o) z) IsWritableThumb
  unfolding thumbnail strip_ranges
  thumb_fit None q = tt
  thumb_fit (Some a) q = record {
    fields = fit Thumb a q;
    jpeg = jpeg_fit (jpeg_range o (entries_at b o a));
    strips = count_strips (entry_with strip_offsets_tag (entries_at b o a)) (entry_with strip_lengths_tag (entries_at b o a))
        (entry_with_found (IsBoth Thumb) strip_offsets_tag (entries_at b o a) (both_each Thumb a q));
  }

  -- ---- each directory has an entry

  abbrev M : Meaning
  M = meaning b o

  first_value : (d : Dir) (val : Entry → Option Value) (e : Entry) (es : List Entry) (v : Value) → val e ≡ Some v
      → 1 ≤ length {A = ℕ × Value} (filter_map (λ e. option_map (λ v. (e.tag, v)) (val e)) (e ∷ es))
  first_value d val e es v q =
      subst (λ z. 1 ≤ length {A = ℕ × Value} (cons_option (option_map (λ v. (e.tag, v)) z)
      (filter_map (λ e. option_map (λ v. (e.tag, v)) (val e)) es))) (sym q) (omega arith)

  some_pointer : (t : ℕ) (e : Entry) (es : List Entry) → e.tag ≡ t → is_one_long e ≡ true → is_some (pointer o t (e ∷ es)) ≡ true
  unfolding pointer
  some_pointer t e es q h =
      subst (λ z. is_some (option_map (offset o) z) ≡ true) (sym (cond-true ((e.tag == t) && is_one_long e) (Some e)
      (find (λ e. (e.tag == t) && is_one_long e) es) (ap₂ (λ a c. a && c) (eq-eqb e.tag t q) h))) refl

  some_entry : (t : ℕ) (e : Entry) (es : List Entry) → e.tag ≡ t → is_some (entry_with t (e ∷ es)) ≡ true
  some_entry t e es q = ap is_some (cond-true (e.tag == t) (Some e) (entry_with t es) (eq-eqb e.tag t q))

  some_map : {X Y : Type 0} (g : X → Y) (z : Option X) → is_some z ≡ true → is_some (option_map g z) ≡ true
  some_map g None h = cc
  some_map g (Some y) h = refl

  -- the first entry of a directory, by its role
  abbrev First : Dir → ℕ → Entry → List Entry → Type 0
  First d a e es = (entries_at b o a ≡ e ∷ es) × IsEntry b o d e

  count : (d : Dir) (a : ℕ) → dir_at b o d ≡ Some a → 1 ≤ length (entries_at b o a)
  unfolding entries
  count d a q = let l = length-map (pieces (short o (take 2 (table b o a))) 12 (drop 2 (table b o a))) (entry o) in
      let n = length_pieces (short o (take 2 (table b o a))) 12 (drop 2 (table b o a)) in let c =
      count_is b o bytes d a (is d a q) in let w = (entry_whole b o bytes d a (is d a q)).0 in omega arith

  not_empty : (d : Dir) (a : ℕ) → dir_at b o d ≡ Some a → (e : Entry) × (es : List Entry) × First d a e es
  not_empty d a q = go (entries_at b o a) refl (is d a q).each (count d a q)
    where
      go : (zs : List Entry) → entries_at b o a ≡ zs → AllByRecursion (IsEntry b o d) zs → 1 ≤ length zs
          → (e : Entry) × (es : List Entry) × First d a e es
      go [] p h l = absurd (omega arith)
      go (e ∷ es) p h l = (e, es, (p, h.0))

  -- a plain or a widened entry is a field
  field_of : (d : Dir) (a : ℕ) (e : Entry) (es : List Entry) → First d a e es → (v : Value) → value_of b o bytes d e ≡ Some v
      → 1 ≤ length (fields b o d a)
  unfolding fields field
  field_of d a e es f v q =
      subst (λ zs. 1 ≤ length {A = ℕ × Value} (filter_map (λ e. option_map (λ v. (e.tag, v)) (value_of b o bytes d e)) zs)) (sym f.0)
      (first_value d (value_of b o bytes d) e es v q)

  known_form : (e : Entry) (P : Type 0) → is_some (form_of e.code) ≡ true → ((f : Form) → form_of e.code ≡ Some f → P) → P
  known_form e P h k = go (form_of e.code) refl h
    where
      go : (z : Option Form) → form_of e.code ≡ z → is_some z ≡ true → P
      go None q h = cc
      go (Some f) q h = k f q

  plain_field : (d : Dir) (a : ℕ) (e : Entry) (es : List Entry) → First d a e es → role d e.tag ≡ Plain → 1 ≤ length (fields b o d a)
  plain_field d a e es f r =
      known_form e _ f.1.known (λ g q. field_of d a e es f (record { kind = Of g; elements = entry_elements b o e g })
      (ap₂ (λ r z. option_and_then (field_value_in b o e r) z) r q))

  wide_field : (d : Dir) (a : ℕ) (e : Entry) (es : List Entry) → First d a e es → role d e.tag ≡ Widened → 1 ≤ length (fields b o d a)
  wide_field d a e es f r =
      known_form e _ f.1.known (λ g q. field_of d a e es f (widened_value g (entry_elements b o e g))
      (ap₂ (λ r z. option_and_then (field_value_in b o e r) z) r q))

  one_long : (d : Dir) (e : Entry) (d' : Dir) → IsEntry b o d e → role d e.tag ≡ To d' → is_one_long e ≡ true
  one_long d e d' i r = subst (λ r. has_form r e ≡ true) r i.formed

  no_forbidden : (d : Dir) (e : Entry) → IsEntry b o d e → role d e.tag ≡ Forbidden → ⊥
  no_forbidden d e i r = true_false (sym i.allowed ∙ ap is_allowed r)
    where
      true_false : true ≡ false → ⊥
      true_false q = cc

  record_field : (e : Entry) (es : List Entry) → First Main main e es → role Main e.tag ≡ Record
      → (1 ≤ length (fields b o Main main)) ⊎ (e.tag ≡ record_tag → is_some (record_at b o main) ≡ true)
  unfolding record_at
  record_field e es f r = known_form e _ f.1.known (λ g q. go g q (record_in g (raw b o e)) refl)
    where
      go : (g : Form) → form_of e.code ≡ Some g → (c : Option Iim) → record_in g (raw b o e) ≡ c
          → (1 ≤ length (fields b o Main main)) ⊎ (e.tag ≡ record_tag → is_some
          (option_and_then (λ e. option_and_then (λ f. record_in f (raw b o e)) (form_of e.code))
          (entry_with record_tag (entries_at b o main))) ≡ true)
      go g q None c = inl (field_of Main main e es f (record { kind = Of g; elements = entry_elements b o e g })
          (ap₂ (λ r z. option_and_then (field_value_in b o e r) z) r q
          ∙ ap (λ c. unless_record c (record { kind = Of g; elements = entry_elements b o e g })) c))
      go g q (Some i) c =
          inr (λ t. ap is_some (ap (option_and_then (λ e. option_and_then (λ f. record_in f (raw b o e)) (form_of e.code)))
          (ap (entry_with record_tag) f.0 ∙ cond-true (e.tag == record_tag) (Some e) (entry_with record_tag es) (eq-eqb e.tag record_tag t))
          ∙ ap (option_and_then (λ f. record_in f (raw b o e))) q ∙ c))

  main_pointer : (u : ℕ) (d' : Dir) (e : Entry) (es : List Entry) → First Main main e es → e.tag ≡ u → role Main e.tag ≡ To d'
      → is_some (pointer o u (entries_at b o main)) ≡ true
  main_pointer u d' e es f t r = subst (λ zs. is_some (pointer o u zs) ≡ true) (sym f.0) (some_pointer u e es t (one_long Main e d' f.1 r))

  filled_main : (e : Entry) (es : List Entry) → First Main main e es → 1 ≤ length (main_items M)
  unfolding meaning dir_at
  filled_main e es f = role_cases Main e.tag (λ r. role Main e.tag ≡ r → 1 ≤ length (main_items M)) (
    (λ t r. has_one exif_tag (link Exif M.exif) with2 (some_map _ M.exif (some_map (exif_part b o) (dir_at b o Exif)
        (main_pointer exif_tag Exif e es f (sym t) r)))),
    (
      (λ t r. let g = put_some_grows exif_tag (link Exif M.exif) with2 in
          let h = has_one gps_tag (link Gps M.gps) with1 (some_map _ M.gps (some_map (fields b o Gps) (dir_at b o Gps)
          (main_pointer gps_tag Gps e es f (sym t) r))) in omega arith),
      (
        (λ t r. recorded (sym t) (record_field e es f r)),
        (
          (λ t r. by_field (wide_field Main main e es f r)),
          (
            (λ t r. by_field (wide_field Main main e es f r)),
            ((λ t r. by_field (wide_field Main main e es f r)), tt),
          ),
        ),
      ),
    ),
  )
      (λ r. absurd (no_forbidden Main e f.1 r))
      (λ r. by_field (plain_field Main main e es f r)) refl
    where
      with1 : List (ℕ × Item)
      with1 = put_some record_tag (option_map Iptc M.iptc) (field_items M.main)

      with2 : List (ℕ × Item)
      with2 = put_some gps_tag (link Gps M.gps) with1

      by_field : 1 ≤ length (fields b o Main main) → 1 ≤ length (main_items M)
      by_field l =
          let k = length_fields (fields b o Main main) in
          let g1 = put_some_grows record_tag (option_map Iptc M.iptc) (field_items M.main) in
          let g2 = put_some_grows gps_tag (link Gps M.gps) with1 in
          let g3 = put_some_grows exif_tag (link Exif M.exif) with2 in omega arith

      recorded : e.tag ≡ record_tag → (1 ≤ length (fields b o Main main)) ⊎ (e.tag ≡ record_tag → is_some (record_at b o main) ≡ true)
          → 1 ≤ length (main_items M)
      recorded t (inl l) = by_field l
      recorded t (inr h) = let g1 = has_one record_tag (option_map Iptc M.iptc) (field_items M.main) (some_map _ M.iptc (h t)) in
          let g2 = put_some_grows gps_tag (link Gps M.gps) with1 in let g3 = put_some_grows exif_tag (link Exif M.exif) with2 in omega arith

  filled_exif : (a : ℕ) → dir_at b o Exif ≡ Some a → (e : Entry) (es : List Entry) → First Exif a e es
      → 1 ≤ length (exif_items (exif_part b o a))
  unfolding exif_part dir_at
  filled_exif a q e es f = role_cases Exif e.tag (λ r. role Exif e.tag ≡ r → 1 ≤ length (exif_items (exif_part b o a))) (
    (λ t r. has_one interop_tag (link Interop (fields_at b o Interop)) (field_items (fields b o Exif a))
        (some_map _ (fields_at b o Interop) (some_map (fields b o Interop) (dir_at b o Interop) (interop (sym t) r)))),
    ((λ t r. by_field (wide_field Exif a e es f r)), ((λ t r. by_field (wide_field Exif a e es f r)), tt)),
  )
      (λ r. absurd (no_forbidden Exif e f.1 r))
      (λ r. by_field (plain_field Exif a e es f r)) refl
    where
      by_field : 1 ≤ length (fields b o Exif a) → 1 ≤ length (exif_items (exif_part b o a))
      by_field l = let k = length_fields (fields b o Exif a) in
          let g = put_some_grows interop_tag (link Interop (fields_at b o Interop)) (field_items (fields b o Exif a)) in omega arith

      interop : e.tag ≡ interop_tag → role Exif e.tag ≡ To Interop → is_some (dir_at b o Interop) ≡ true
      interop t r = subst (λ z. is_some (option_and_then (λ a. pointer o interop_tag (entries_at b o a)) z) ≡ true) (sym q)
          (subst (λ zs. is_some (pointer o interop_tag zs) ≡ true) (sym f.0)
          (some_pointer interop_tag e es t (one_long Exif e Interop f.1 r)))

  both_there : {X Y Z : Type 0} (g : X → Y → Z) (u : Option X) (w : Option Y) → are_paired u w ≡ true
      → (is_some u ≡ true) ⊎ (is_some w ≡ true) → is_some (both g u w) ≡ true
  both_there g None None h k = elim k [ inl p ↦ cc | inr p ↦ cc ]
  both_there g (Some u) (Some w) h k = refl
  both_there g None (Some w) h k = cc
  both_there g (Some u) None h k = cc

  filled_thumb : (a : ℕ) → dir_at b o Thumb ≡ Some a → (e : Entry) (es : List Entry) → First Thumb a e es
      → 1 ≤ length (thumb_items (thumbnail b o a))
  unfolding thumbnail jpeg_range strip_ranges
  filled_thumb a q e es f = role_cases Thumb e.tag (λ r. role Thumb e.tag ≡ r → 1 ≤ length (thumb_items (thumbnail b o a))) (
    (λ t r. by_jpeg (inl (has jpeg_offset_tag (sym t)))),
    (
      (λ t r. by_jpeg (inr (has jpeg_length_tag (sym t)))),
      (
        (λ t r. by_strips (inl (has strip_offsets_tag (sym t)))),
        (
          (λ t r. by_strips (inr (has strip_lengths_tag (sym t)))),
          (
            (λ t r. by_field (wide_field Thumb a e es f r)),
            (
              (λ t r. by_field (wide_field Thumb a e es f r)),
              ((λ t r. by_field (wide_field Thumb a e es f r)), tt),
            ),
          ),
        ),
      ),
    ),
  )
      (λ r. absurd (no_forbidden Thumb e f.1 r))
      (λ r. by_field (plain_field Thumb a e es f r)) refl
    where
      T : IsThumbnail b o a
      T = subst (λ z. IfSome z (IsThumbnail b o)) q x.thumbnail

      J : Option (List ℕ)
      J = option_map (bytes_of b) (both (λ x n. range (offset o x) (offset o n)) (entry_with jpeg_offset_tag (entries_at b o a))
          (entry_with jpeg_length_tag (entries_at b o a)))

      S : Option (List (List ℕ))
      S = option_map (map (bytes_of b)) (both (λ x n. ranges_of (numbers b o x) (numbers b o n))
          (entry_with strip_offsets_tag (entries_at b o a)) (entry_with strip_lengths_tag (entries_at b o a)))

      s1 : List (ℕ × Item)
      s1 = put_some strip_lengths_tag (option_map (λ s. StripSizes (map (λ x. length x) s)) S) (field_items (fields b o Thumb a))

      s2 : List (ℕ × Item)
      s2 = put_some strip_offsets_tag (option_map (λ s. AtStrips (length s)) S) s1

      s3 : List (ℕ × Item)
      s3 = put_some jpeg_length_tag (option_map (λ x. JpegSize (length x)) J) s2

      by_field : 1 ≤ length (fields b o Thumb a) → 1 ≤ length (thumb_items (thumbnail b o a))
      by_field l = let k = length_fields (fields b o Thumb a) in
          let g1 = put_some_grows strip_lengths_tag (option_map (λ s. StripSizes (map (λ x. length x) s)) S)
          (field_items (fields b o Thumb a)) in
          let g2 = put_some_grows strip_offsets_tag (option_map (λ s. AtStrips (length s)) S) s1 in
          let g3 = put_some_grows jpeg_length_tag (option_map (λ x. JpegSize (length x)) J) s2 in
          let g4 = put_some_grows jpeg_offset_tag (option_map (λ _. AtJpeg) J) s3 in omega arith

      has : (u : ℕ) → e.tag ≡ u → is_some (entry_with u (entries_at b o a)) ≡ true
      has u t = subst (λ zs. is_some (entry_with u zs) ≡ true) (sym f.0) (some_entry u e es t)

      by_jpeg : (is_some (entry_with jpeg_offset_tag (entries_at b o a)) ≡ true) ⊎
          (is_some (entry_with jpeg_length_tag (entries_at b o a)) ≡ true) → 1 ≤ length (thumb_items (thumbnail b o a))
      by_jpeg h =
          has_one jpeg_offset_tag (option_map (λ _. AtJpeg) J) s3 (some_map _ J (some_map (bytes_of b) _ (both_there _ _ _ T.jpeg_pair h)))

      by_strips : (is_some (entry_with strip_offsets_tag (entries_at b o a)) ≡ true) ⊎
          (is_some (entry_with strip_lengths_tag (entries_at b o a)) ≡ true) → 1 ≤ length (thumb_items (thumbnail b o a))
      by_strips h =
          let g2 = has_one strip_offsets_tag (option_map (λ s. AtStrips (length s)) S) s1
          (some_map _ S (some_map (map (bytes_of b)) _ (both_there _ _ _ T.strip_pair h))) in
          let g3 = put_some_grows jpeg_length_tag (option_map (λ x. JpegSize (length x)) J) s2 in
          let g4 = put_some_grows jpeg_offset_tag (option_map (λ _. AtJpeg) J) s3 in omega arith

  filled_plain : (d : Dir) → special d ≡ [] → (z : Option ℕ) → dir_at b o d ≡ z
      → IfSome (option_map field_items (option_map (fields b o d) z)) (λ xs. 1 ≤ length xs)
  filled_plain d none None q = tt
  filled_plain d none (Some a) q =
      let w = not_empty d a q in
      let k = length_fields (fields b o d a) in
      let l : 1 ≤ length (fields b o d a) = role_cases d w.0.tag (λ r. role d w.0.tag ≡ r → 1 ≤ length (fields b o d a))
      (subst (AllByRecursion (λ (y : ℕ × Role). y.0 ≡ w.0.tag → role d w.0.tag ≡ y.1 → 1 ≤ length (fields b o d a))) (sym none) tt)
      (λ r. absurd (no_forbidden d w.0 w.2.1 r)) (λ r. plain_field d a w.0 w.1 w.2 r) refl in
      omega arith

  filled_is : (d : Dir) → IfSome (items M d) (λ xs. 1 ≤ length xs)
  unfolding items meaning exif_part
  filled_is Main = let w = not_empty Main main main_is in filled_main w.0 w.1 w.2
  filled_is Exif = go (dir_at b o Exif) refl
    where
      go : (z : Option ℕ) → dir_at b o Exif ≡ z → IfSome (option_map exif_items (option_map (exif_part b o) z)) (λ xs. 1 ≤ length xs)
      go None q = tt
      go (Some a) q = let w = not_empty Exif a q in filled_exif a q w.0 w.1 w.2
  filled_is Interop = go (dir_at b o Exif)
    where
      go : (z : Option ℕ) → IfSome (option_and_then (λ e. option_map field_items e.interop) (option_map (exif_part b o) z))
          (λ xs. 1 ≤ length xs)
      go None = tt
      go (Some a) = filled_plain Interop refl (dir_at b o Interop) refl
  filled_is Gps = filled_plain Gps refl (dir_at b o Gps) refl
  filled_is Thumb = go (dir_at b o Thumb) refl
    where
      go : (z : Option ℕ) → dir_at b o Thumb ≡ z → IfSome (option_map thumb_items (option_map (thumbnail b o) z)) (λ xs. 1 ≤ length xs)
      go None q = tt
      go (Some a) q = let w = not_empty Thumb a q in filled_thumb a q w.0 w.1 w.2

  pub tree_fits : IsWritable M
  unfolding meaning
  tree_fits = record {
    main = fit Main main main_is;
    iptc = iptc_fits;
    no_second = no_second_is (record_at b o main) refl;
    exif = exif_fit (dir_at b o Exif) refl;
    gps = opt_fit Gps (dir_at b o Gps) refl;
    thumb = thumb_fit (dir_at b o Thumb) refl;
    filled = (filled_is Main, (filled_is Exif, (filled_is Interop, (filled_is Gps, (filled_is Thumb, tt)))));
  }

-- The meaning of a block of bytes can be written.
pub meaning_is_writable : (b : List ℕ) (m : Meaning) → AreBytes b → SaysExif b m → IsWritable m
meaning_is_writable b m h s = subst IsWritable (sym s.means) (tree_fits b s.order h s.is_block)
