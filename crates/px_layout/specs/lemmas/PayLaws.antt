-- For each entry that the normal form of a block's meaning has, some entry of the block pays.
use Rattle.std.proofs.Common.{◌≡◌, ℕ, ◌*◌, ◌≤◌, ◌==◌, ◌||◌, inl, inr, true, Option, Some, None, option_map, option_and_then, find, List, []}
use Rattle.std.proofs.Common.{◌∷◌, map, length, take, drop, refl, sym, ◌∙◌, ap, subst, arith, eqb-true, length-take}
use Rattle.std.specs.Prelude.{IfSome, ⊤}
use Rattle.std.specs.List.{AllByRecursion}
use Rattle.std.proofs.lemmas.Bool.{cond_both, cases_Bool, and_parts}
use Rattle.std.proofs.lemmas.List.{length-map}
use Rattle.px_bytes.specs.declared.Order.{Order}
use Rattle.px_bytes.specs.Parts.{part}
use Rattle.px_bytes.specs.Range.{Range}
use Rattle.px_bytes.specs.lemmas.EachLaws.{each_all}
use Rattle.px_field.specs.declared.Form.{Form}
use Rattle.px_field.specs.declared.Form.TheVariants.{Byte, Short, Long, Undefined}
use Rattle.px_field.specs.declared.Element.{Element}
use Rattle.px_field.specs.declared.Kind.TheVariants.{Of}
use Rattle.px_field.specs.Forms.{form_of, size}
use Rattle.px_field.specs.Values.{Value, elements, widened}
use Rattle.px_field.specs.lemmas.ValueLaws.{length_elements}
use Rattle.px_iim.specs.lemmas.RecordLaws.{computed_is_meaning}
use Rattle.px_iim.specs.lemmas.BoundLaws.{normal_bound as record_bound}
use Rattle.px_meaning.specs.Iim.{Iim}
use Rattle.px_meaning.specs.declared.Dir.{Dir}
use Rattle.px_meaning.specs.declared.Dir.TheVariants.{Main, Exif, Interop, Gps, Thumb}
use Rattle.px_meaning.specs.declared.Role.{Role}
use Rattle.px_meaning.specs.declared.Role.TheVariants.{Plain, Widened, Forbidden, Record, JpegOffset, JpegLength, StripOffsets}
use Rattle.px_meaning.specs.declared.Role.TheVariants.{StripLengths}
use Rattle.px_meaning.specs.declared.Role.TheVariants.{To}
use Rattle.px_meaning.specs.Roles.{jpeg_offset_tag, jpeg_length_tag, strip_offsets_tag, strip_lengths_tag, exif_tag, gps_tag, interop_tag}
use Rattle.px_meaning.specs.Roles.{record_tag, role}
use Rattle.px_meaning.specs.Entry.{Entry, sized, raw_size, is_placed, offset, raw, is_one_long, is_short_or_long, has_form, IsEntry}
use Rattle.px_meaning.specs.Entry.{entry_elements, widened_value, record_in, unless_record, field_value_in, field, fields}
use Rattle.px_meaning.specs.Directory.{entries_at, entry_with, is_pointer, pointer, main_at, dir_at}
use Rattle.px_meaning.specs.Thumbnail.{both, whole_number, numbers_in, numbers, bytes_of, jpeg_range, ranges_of, strip_ranges}
use Rattle.px_meaning.specs.Says.{record_at, exif_part, thumbnail, meaning}
use Rattle.px_meaning.specs.Writable.{Item, Field, Iptc, Link, AtJpeg, JpegSize, AtStrips, StripSizes, item_size, put_some, link}
use Rattle.px_meaning.specs.Writable.{field_items, main_items, exif_items, thumb_items}
use Rattle.px_layout.specs.lemmas.EntryLaws.{each_put}
use Rattle.px_layout.specs.lemmas.CostLaws.{weight, cost, cost_widened, Pays, PayEach, pays_found, found_is, pay_fields}

least_weight : (e : Entry) → 12 ≤ weight e
least_weight e = omega arith

pay_put : (es : List Entry) (t : ℕ) (x : Option Item) (ys : List (ℕ × Item)) → IfSome x (λ x. Pays t (cost (t, x)) es) → PayEach es ys
    → PayEach es (put_some t x ys)
pay_put es t None ys p h = h
pay_put es t (Some x) ys p h = each_put (λ i. Pays i.0 (cost i) es) t x ys p h

-- the entry of a tag pays
tag_pays : (t c : ℕ) (es : List Entry) (e : Entry) → entry_with t es ≡ Some e → c ≤ 2 * weight e → Pays t c es
tag_pays t c es e q l =
    pays_found t c (λ e. e.tag == t) es e q (eqb-true e.tag t (found_is (λ _. ⊤) (λ e. e.tag == t) es e (each_all (λ _. ⊤) (λ _. tt) es)
    q).1) l

wide_size : (f : Form) (n : ℕ) (xs : List Element) → length xs ≡ n → item_size (Field (widened_value f xs)) ≤ 2 * (n * size f)
unfolding item_size
wide_size Short n xs l = let m = length-map xs widened in omega arith
wide_size Long n xs l = let m = length-map xs widened in omega arith
wide_size _ n xs l = omega arith

module _ (b : List ℕ) (o : Order) where
  -- ---- fields

  raw_short : (e : Entry) → length (raw b o e) ≤ raw_size e
  unfolding raw
  raw_short e =
      cond_both (is_placed e) (part b (offset o e) (raw_size e)) (take (raw_size e) e.last) (λ y. length y ≤ raw_size e)
      (λ _. taken (raw_size e) (drop (offset o e) b)) (λ _. taken (raw_size e) e.last)
    where
      taken : (n : ℕ) (x : List ℕ) → length (take n x) ≤ n
      taken n x = let l = length-take n x in omega arith

  module _ (e : Entry) (f : Form) (known : form_of e.code ≡ Some f) where
    raw_is : raw_size e ≡ e.count * size f
    unfolding raw_size
    raw_is = ap (λ f. sized f e.count) known

    length_is : length (entry_elements b o e f) ≡ e.count
    unfolding entry_elements
    length_is = length_elements o f e.count (raw b o e)

    same_size : item_size (Field (record { kind = Of f; elements = entry_elements b o e f })) ≤ 2 * raw_size e
    unfolding item_size
    same_size = let r = raw_is in let l : length (entry_elements b o e f) * size f ≡ e.count * size f = ap (λ n. n * size f) length_is in
        omega arith

    value_size : (r : Role) (v : Value) → field_value_in b o e r f ≡ Some v → item_size (Field v) ≤ 2 * raw_size e
    value_size Plain v h = let j : record { kind = Of f; elements = entry_elements b o e f } ≡ v = cc in
        subst (λ v. item_size (Field v) ≤ 2 * raw_size e) j same_size
    value_size Widened v h = let j : widened_value f (entry_elements b o e f) ≡ v = cc in
        subst (λ v. item_size (Field v) ≤ 2 * raw_size e) j (let w = wide_size f e.count (entry_elements b o e f) length_is in let
        r = raw_is in omega arith)
    value_size Record v h = unless (record_in f (raw b o e)) h
      where
        unless : (c : Option Iim) → unless_record c (record { kind = Of f; elements = entry_elements b o e f }) ≡ Some v
            → item_size (Field v) ≤ 2 * raw_size e
        unless None k = let j : record { kind = Of f; elements = entry_elements b o e f } ≡ v = cc in
            subst (λ v. item_size (Field v) ≤ 2 * raw_size e) j same_size
        unless (Some i) k = cc
    value_size Forbidden v h = cc
    value_size JpegOffset v h = cc
    value_size JpegLength v h = cc
    value_size StripOffsets v h = cc
    value_size StripLengths v h = cc
    value_size (To d) v h = cc

  field_size : (d : Dir) (e : Entry) (v : Value) (f : Option Form) → form_of e.code ≡ f
      → option_and_then (field_value_in b o e (role d e.tag)) f ≡ Some v → item_size (Field v) ≤ 2 * raw_size e
  field_size d e v None q h = cc
  field_size d e v (Some f) q h = value_size e f q (role d e.tag) v h

  fields_paid : (d : Dir) (a : ℕ) → PayEach (entries_at b o a) (field_items (fields b o d a))
  unfolding fields field
  fields_paid d a = pay_fields (λ e. option_and_then (field_value_in b o e (role d e.tag)) (form_of e.code)) (entries_at b o a)
      (each_all (λ e. (v : Value) → option_and_then (field_value_in b o e (role d e.tag)) (form_of e.code) ≡ Some v
      → cost (e.tag, Field v) ≤ 2 *
      weight e)
      (λ e v h. cost_widened (e.tag, Field v) e (field_size d e v (form_of e.code) refl h)) (entries_at b o a))

  -- ---- pointers

  pointer_pays : (t : ℕ) (d : Dir) (es : List Entry) (a : ℕ) (z : Option Entry) → find (is_pointer t) es ≡ z
      → option_map (offset o) z ≡ Some a → Pays t (cost (t, Link d)) es
  unfolding item_size
  pointer_pays t d es a None q h = cc
  pointer_pays t d es a (Some e) q h =
      let k = (found_is (λ _. ⊤) (is_pointer t) es e (each_all (λ _. ⊤) (λ _. tt) es) q).1 in
      let l = least_weight e in
      pays_found t (cost (t, Link d)) (is_pointer t) es e q (eqb-true e.tag t (and_parts (e.tag == t) (is_one_long e) k).0) (omega arith)

  link_paid : {X : Type 0} (t : ℕ) (d : Dir) (es : List Entry) (g : ℕ → X) (z : Option ℕ) → pointer o t es ≡ z
      → IfSome (link d (option_map g z)) (λ x. Pays t (cost (t, x)) es)
  unfolding pointer
  link_paid t d es g None q = tt
  link_paid t d es g (Some a) q = pointer_pays t d es a (find (is_pointer t) es) refl q

  -- ---- the record

  meaning_size : (y : List ℕ) (i : Iim) (f : Form) → record_in f y ≡ Some i → item_size (Iptc i) ≤ 2 * length y
  unfolding item_size
  meaning_size y i Byte h = let k = record_bound y i (computed_is_meaning y i h) in omega arith
  meaning_size y i Undefined h = let k = record_bound y i (computed_is_meaning y i h) in omega arith
  meaning_size y i _ h = cc

  entry_record : Entry → Option Iim
  entry_record e = option_and_then (λ f. record_in f (raw b o e)) (form_of e.code)

  record_size : (e : Entry) (i : Iim) (f : Option Form) → option_and_then (λ f. record_in f (raw b o e)) f ≡ Some i
      → item_size (Iptc i) ≤ 2 * raw_size e
  record_size e i None h = cc
  record_size e i (Some f) h = let s = meaning_size (raw b o e) i f h in let r = raw_short e in omega arith

  record_pays : (es : List Entry) (i : Iim) (z : Option Entry) → entry_with record_tag es ≡ z → option_and_then entry_record z ≡ Some i
      → Pays record_tag (cost (record_tag, Iptc i)) es
  unfolding entry_record
  record_pays es i None q h = cc
  record_pays es i (Some e) q h =
      tag_pays record_tag (cost (record_tag, Iptc i)) es e q (cost_widened (record_tag, Iptc i) e (record_size e i (form_of e.code) h))

  record_paid : (a : ℕ) (z : Option Iim) → record_at b o a ≡ z
      → IfSome (option_map Iptc z) (λ x. Pays record_tag (cost (record_tag, x)) (entries_at b o a))
  unfolding record_at entry_record
  record_paid a None q = tt
  record_paid a (Some i) q = record_pays (entries_at b o a) i (entry_with record_tag (entries_at b o a)) refl q

  -- ---- the thumbnail's parts

  both_there : {X Y Z : Type 0} (g : X → Y → Z) (u : Option X) (w : Option Y) (z : Z) → both g u w ≡ Some z
      → (x : X) × (y : Y) × (u ≡ Some x) × (w ≡ Some y) × (g x y ≡ z)
  both_there g (Some x) (Some y) z h = (x, y, refl, refl, cc)
  both_there g None w z h = cc
  both_there g (Some x) None z h = cc

  JpegPaid : List Entry → Option Range → Type 0
  JpegPaid es z =
      IfSome (option_map (λ (_ : List ℕ). AtJpeg) (option_map (bytes_of b) z)) (λ x. Pays jpeg_offset_tag (cost (jpeg_offset_tag, x)) es)
      × IfSome (option_map (λ (x : List ℕ). JpegSize (length x)) (option_map (bytes_of b) z))
      (λ x. Pays jpeg_length_tag (cost (jpeg_length_tag, x)) es)

  jpeg_paid : (es : List Entry) (z : Option Range) → jpeg_range o es ≡ z → JpegPaid es z
  unfolding jpeg_range item_size JpegPaid
  jpeg_paid es None q = (tt, tt)
  jpeg_paid es (Some r) q =
      let p = both_there _ (entry_with jpeg_offset_tag es) (entry_with jpeg_length_tag es) r q in (
        (let l = least_weight p.0 in tag_pays jpeg_offset_tag (cost (jpeg_offset_tag, AtJpeg)) es p.0 p.2 (omega arith)),
        (let l = least_weight p.1 in tag_pays jpeg_length_tag (cost (jpeg_length_tag, JpegSize (length (bytes_of b r)))) es p.1 p.3
            (omega arith)),
      )

  few_ranges : (xs ns : List ℕ) → (length (ranges_of xs ns) ≤ length xs) × (length (ranges_of xs ns) ≤ length ns)
  few_ranges [] ns = (omega arith, omega arith)
  few_ranges (y ∷ xs) [] = (omega arith, omega arith)
  few_ranges (y ∷ xs) (n ∷ ns) = let e = few_ranges xs ns in let p = e.0 in let q = e.1 in (omega arith, omega arith)

  few_in : (e : Entry) (f : Option Form) → length (numbers_in b o e f) ≤ e.count
  unfolding entry_elements
  few_in e None = omega arith
  few_in e (Some f) =
      let m = length-map (elements o f e.count (raw b o e)) whole_number in let k = length_elements o f e.count (raw b o e) in omega arith

  few_numbers : (e : Entry) → length (numbers b o e) ≤ e.count
  unfolding numbers
  few_numbers e = few_in e (form_of e.code)

  -- SHORT or LONG
  raw_long : (e : Entry) → is_short_or_long e ≡ true → 2 * e.count ≤ raw_size e
  unfolding raw_size form_of
  raw_long e h = elim (cases_Bool (e.code == 3)) [
    | inl q ↦ let r : raw_size e ≡ e.count * 2 = ap (λ c. sized (form_of c) e.count) (eqb-true e.code 3 q) in omega arith
    | inr q ↦ let k : (e.code == 4) ≡ true = sym (ap (λ t. t || (e.code == 4)) q) ∙ h in
        let r : raw_size e ≡ e.count * 4 = ap (λ c. sized (form_of c) e.count) (eqb-true e.code 4 k) in omega arith
  ]

  StripsPaid : List Entry → Option (List Range) → Type 0
  StripsPaid es z =
      IfSome (option_map (λ (s : List (List ℕ)). AtStrips (length s)) (option_map (map (bytes_of b)) z))
      (λ x. Pays strip_offsets_tag (cost (strip_offsets_tag, x)) es)
      × IfSome (option_map (λ (s : List (List ℕ)). StripSizes (map (λ x. length x) s)) (option_map (map (bytes_of b)) z))
      (λ x. Pays strip_lengths_tag (cost (strip_lengths_tag, x)) es)

  formed : (t : ℕ) (es : List Entry) (e : Entry) → AllByRecursion (IsEntry b o Thumb) es
      → ((e : Entry) → has_form (role Thumb t) e ≡ is_short_or_long e) → entry_with t es ≡ Some e → is_short_or_long e ≡ true
  formed t es e h r q =
      let k = found_is (IsEntry b o Thumb) (λ e. e.tag == t) es e h q in
      sym (r e) ∙ subst (λ u. has_form (role Thumb u) e ≡ true) (eqb-true e.tag t k.1) k.0.formed

  strips_paid : (es : List Entry) (z : Option (List Range)) → AllByRecursion (IsEntry b o Thumb) es → strip_ranges b o es ≡ z
      → StripsPaid es z
  unfolding strip_ranges item_size StripsPaid role
  strips_paid es None h q = (tt, tt)
  strips_paid es (Some rs) h q =
      let p = both_there _ (entry_with strip_offsets_tag es) (entry_with strip_lengths_tag es) rs q in
      let s : List (List ℕ) = map (bytes_of b) rs in
      let n : length s ≡ length rs = length-map rs (bytes_of b) in
      let m : length (map (λ (x : List ℕ). length x) s) ≡ length s = length-map s (λ x. length x) in
      let c : length (ranges_of (numbers b o p.0) (numbers b o p.1)) ≡ length rs = ap (λ (z : List Range). length z) p.4 in
      let f = few_ranges (numbers b o p.0) (numbers b o p.1) in
      let f0 = f.0 in let f1 = f.1 in
      let u = few_numbers p.0 in
      let w = few_numbers p.1 in
      let x = raw_long p.0 (formed strip_offsets_tag es p.0 h (λ e. refl) p.2) in
      let y = raw_long p.1 (formed strip_lengths_tag es p.1 h (λ e. refl) p.3) in (
        tag_pays strip_offsets_tag (cost (strip_offsets_tag, AtStrips (length s))) es p.0 p.2
            (cost_widened (strip_offsets_tag, AtStrips (length s)) p.0 (omega arith)),
        tag_pays strip_lengths_tag (cost (strip_lengths_tag, StripSizes (map (λ x. length x) s))) es p.1 p.3
            (cost_widened (strip_lengths_tag, StripSizes (map (λ x. length x) s)) p.1 (omega arith)),
      )

  -- ---- each directory

  pub main_paid : PayEach (entries_at b o (main_at b o)) (main_items (meaning b o))
  unfolding meaning dir_at
  main_paid =
      let a = main_at b o in
      let es = entries_at b o a in
      pay_put es exif_tag (link Exif (option_map (exif_part b o) (dir_at b o Exif))) _
      (link_paid exif_tag Exif es (exif_part b o) (dir_at b o Exif) refl)
      (pay_put es gps_tag (link Gps (option_map (fields b o Gps) (dir_at b o Gps))) _
      (link_paid gps_tag Gps es (fields b o Gps) (dir_at b o Gps) refl)
      (pay_put es record_tag (option_map Iptc (record_at b o a)) _ (record_paid a (record_at b o a) refl) (fields_paid Main a)))

  pub exif_paid : (a : ℕ) → dir_at b o Exif ≡ Some a → PayEach (entries_at b o a) (exif_items (exif_part b o a))
  unfolding exif_part dir_at
  exif_paid a q =
      pay_put (entries_at b o a) interop_tag (link Interop (option_map (fields b o Interop) (dir_at b o Interop))) _
      (link_paid interop_tag Interop (entries_at b o a) (fields b o Interop) (dir_at b o Interop)
      (sym (ap (option_and_then (λ a. pointer o interop_tag (entries_at b o a))) q)))
      (fields_paid Exif a)

  pub plain_paid : (d : Dir) (a : ℕ) → PayEach (entries_at b o a) (field_items (fields b o d a))
  plain_paid d a = fields_paid d a

  pub thumb_paid : (a : ℕ) → AllByRecursion (IsEntry b o Thumb) (entries_at b o a)
      → PayEach (entries_at b o a) (thumb_items (thumbnail b o a))
  unfolding thumbnail JpegPaid StripsPaid
  thumb_paid a h =
      let es = entries_at b o a in
      let j = jpeg_paid es (jpeg_range o es) refl in
      let s = strips_paid es (strip_ranges b o es) h refl in
      pay_put es jpeg_offset_tag _ _ j.0 (pay_put es jpeg_length_tag _ _ j.1
      (pay_put es strip_offsets_tag _ _ s.0 (pay_put es strip_lengths_tag _ _ s.1 (fields_paid Thumb a))))
