-- The fields of a directory fit: tags ascend, each field is allowed at its tag, and its elements are in range.
use Rattle.std.proofs.Common.{◌≡◌, ℕ, zero, suc, ◌+◌, ◌*◌, ◌^◌, ◌<◌, ◌≤◌, nat_le, inl, inr, true, Option, Some, None, option_map}
use Rattle.std.proofs.Common.{option_and_then, List, [], ◌∷◌, map, filter_map, length, take, drop, refl, sym, ◌∙◌, ap, subst, arith}
use Rattle.std.proofs.Common.{leb-true, ltb-false, length-drop}
use Rattle.std.specs.List.{AllByRecursion, cons_option}
use Rattle.std.proofs.lemmas.Bool.{cond-true, cond-false, cases_Bool, and_parts, cond_both}
use Rattle.std.proofs.lemmas.List.{length-take-le, take-take}
use Rattle.px_bytes.specs.declared.Order.{Order}
use Rattle.px_bytes.specs.declared.Order.TheVariants.{Least}
use Rattle.px_bytes.specs.Numbers.{AreBytes, number}
use Rattle.px_bytes.specs.Parts.{part, pieces}
use Rattle.px_bytes.specs.lemmas.EachLaws.{each_map₂}
use Rattle.px_field.specs.declared.Form.{Form}
use Rattle.px_field.specs.declared.Form.TheVariants.{Byte, Ascii, Short, Long, Rational, SByte, Undefined, SShort, SLong, SRational, Float}
use Rattle.px_field.specs.declared.Form.TheVariants.{Double, Utf8}
use Rattle.px_field.specs.declared.Kind.TheVariants.{Of}
use Rattle.px_field.specs.declared.Element.{Element}
use Rattle.px_field.specs.declared.Element.TheVariants as element
use Rattle.px_field.specs.Forms.{form_of, size}
use Rattle.px_field.specs.Values.{Value, IsOf, IsValue, encoded, widened}
use Rattle.px_field.specs.lemmas.PieceLaws.{bytes_take, bytes_drop, each_piece}
use Rattle.px_field.specs.lemmas.ValueLaws.{IsOf_elements}
use Rattle.px_meaning.specs.Iim.{Iim, iim_of}
use Rattle.px_meaning.specs.declared.roles.Dir.{Dir}
use Rattle.px_meaning.specs.declared.roles.Role.{Role}
use Rattle.px_meaning.specs.declared.roles.Role.TheVariants.{Plain, Widened, Forbidden, Record, JpegOffset, JpegLength, StripOffsets}
use Rattle.px_meaning.specs.declared.roles.Role.TheVariants.{StripLengths, To}
use Rattle.px_meaning.specs.Roles.{role}
use Rattle.px_meaning.specs.Entry.{short, Entry, entry, table_size, has_table, table, entries, sized, raw_size, is_placed, offset, raw}
use Rattle.px_meaning.specs.Entry.{has_raw, IsEntry, Rising, IsDirectory, entry_elements, widened_value, record_in, unless_record}
use Rattle.px_meaning.specs.Entry.{field_value_in}
use Rattle.px_meaning.specs.Entry.{field, fields}
use Rattle.px_meaning.specs.Directory.{entries_at}
use Rattle.px_meaning.specs.Writable.{Allows, IsWritableField, AreWritableFields}
use Rattle.px_meaning.specs.lemmas.InRange.{bytes_part, below_16, bytes_back, undefined_back}

-- ---- entries

pub record Plausible (e : Entry) : Type 0 where
  pub tag : e.tag < 2 ^ 16
  pub bytes : AreBytes e.last
  pub four : length e.last ≡ 4

pieces_full : (n k : ℕ) (x : List ℕ) → n * k ≤ length x → AllByRecursion (λ y. length y ≡ k) (pieces n k x)
pieces_full zero k x h = tt
pieces_full (suc n) k x h = (length-take-le k x (omega arith), pieces_full n k (drop k x) (let e = length-drop k x in omega arith))

entry_plausible : (o : Order) (x : List ℕ) → AreBytes x → length x ≡ 12 → Plausible (entry o x)
unfolding entry
entry_plausible o x h l = record {
  tag = below_16 o (part x 0 2) (bytes_part x 0 2 h);
  bytes = bytes_part x 8 4 h;
  four = length-take-le 4 (drop 8 x) (let e = length-drop 8 x in omega arith);
}

each_entry : (o : Order) (xs : List (List ℕ)) → AllByRecursion AreBytes xs → AllByRecursion (λ y. length y ≡ 12) xs
    → AllByRecursion Plausible (map (entry o) xs)
each_entry o [] h l = tt
each_entry o (x ∷ xs) h l = (entry_plausible o x h.0 l.0, each_entry o xs h.1 l.1)

module _ (b : List ℕ) (o : Order) (bytes : AreBytes b) where
  module _ (d : Dir) (a : ℕ) (is : IsDirectory b o d a) where
    abbrev pub n : ℕ
    n = short o (part b a 2)

    pub entry_whole : (1 ≤ n) × (a + table_size n ≤ length b)
    unfolding has_table
    entry_whole = let h = and_parts (nat_le 1 n) (nat_le (a + table_size n) (length b)) is.there in
        (leb-true 1 n h.0, leb-true (a + table_size n) (length b) h.1)

    table_is : table b o a ≡ part b a (table_size n)
    unfolding table
    table_is = cond-true (has_table b o a) (part b a (table_size n)) [] is.there

    pub count_is : short o (take 2 (table b o a)) ≡ n
    count_is = ap (λ t. number o 2 (take 2 t)) table_is ∙ ap (number o 2) (take-take 2 (table_size n) (drop a b) (omega arith))

    length_table : length (table b o a) ≡ table_size n
    length_table =
        ap (λ t. length t) table_is ∙ length-take-le (table_size n) (drop a b)
        (let e = length-drop a b in let w = entry_whole.1 in omega arith)

    bytes_table : AreBytes (drop 2 (table b o a))
    bytes_table = bytes_drop 2 (table b o a) (subst AreBytes (sym table_is) (bytes_part b a (table_size n) bytes))

    pub entries_plausible : AllByRecursion Plausible (entries_at b o a)
    unfolding entries
    entries_plausible = each_entry o (pieces (short o (take 2 (table b o a))) 12 (drop 2 (table b o a)))
        (each_piece AreBytes AreBytes _ 12 (drop 2 (table b o a)) (λ y. bytes_take 12 y) (λ y. bytes_drop 12 y) bytes_table)
        (pieces_full (short o (take 2 (table b o a))) 12 (drop 2 (table b o a))
        (let e = length-drop 2 (table b o a) in let l = length_table in let c = count_is in omega arith))

  -- ---- raw bytes

  pub bytes_raw : (e : Entry) → AreBytes e.last → AreBytes (raw b o e)
  unfolding raw
  bytes_raw e h =
      cond_both (is_placed e) (part b (offset o e) (raw_size e)) (take (raw_size e) e.last) AreBytes
      (λ _. bytes_part b (offset o e) (raw_size e) bytes) (λ _. bytes_take (raw_size e) e.last h)

  pub length_raw : (e : Entry) → length e.last ≡ 4 → has_raw b o e ≡ true → length (raw b o e) ≡ raw_size e
  unfolding raw has_raw
  length_raw e l h = elim (cases_Bool (is_placed e)) [
    | inl t ↦ ap (λ x. length x) (cond-true (is_placed e) (part b (offset o e) (raw_size e)) (take (raw_size e) e.last) t)
        ∙ (let i : offset o e + raw_size e ≤ length b =
        leb-true _ _ (sym (cond-true (is_placed e) (nat_le (offset o e + raw_size e) (length b)) true t) ∙ h) in
        length-take-le (raw_size e) (drop (offset o e) b) (let k = length-drop (offset o e) b in omega arith))
    | inr t ↦ ap (λ x. length x) (cond-false (is_placed e) (part b (offset o e) (raw_size e)) (take (raw_size e) e.last) t)
        ∙ length-take-le (raw_size e) e.last (let k = ltb-false 4 (raw_size e) t in omega arith)
  ]

  -- ---- values

  short_widened : (xs : List Element) → AllByRecursion (IsOf Short) xs → AllByRecursion (IsOf Long) (map widened xs)
  short_widened [] h = tt
  short_widened (element.Short n ∷ xs) h = (let k = h.0 in omega arith, short_widened xs h.1)
  short_widened (_ ∷ xs) h = absurd h.0

  long_widened : (xs : List Element) → AllByRecursion (IsOf Long) xs → AllByRecursion (IsOf Long) (map widened xs)
  long_widened [] h = tt
  long_widened (element.Long n ∷ xs) h = (h.0, long_widened xs h.1)
  long_widened (_ ∷ xs) h = absurd h.0

  widened_fits : (f : Form) (xs : List Element) → AllByRecursion (IsOf f) xs
      → IsValue (widened_value f xs) × Allows Widened (widened_value f xs)
  widened_fits Short xs h = (short_widened xs h, ((λ e. cc), (λ e. cc)))
  widened_fits Long xs h = (long_widened xs h, ((λ e. cc), (λ e. cc)))
  widened_fits Byte xs h = (h, ((λ e. cc), (λ e. cc)))
  widened_fits Ascii xs h = (h, ((λ e. cc), (λ e. cc)))
  widened_fits Rational xs h = (h, ((λ e. cc), (λ e. cc)))
  widened_fits SByte xs h = (h, ((λ e. cc), (λ e. cc)))
  widened_fits Undefined xs h = (h, ((λ e. cc), (λ e. cc)))
  widened_fits SShort xs h = (h, ((λ e. cc), (λ e. cc)))
  widened_fits SLong xs h = (h, ((λ e. cc), (λ e. cc)))
  widened_fits SRational xs h = (h, ((λ e. cc), (λ e. cc)))
  widened_fits Float xs h = (h, ((λ e. cc), (λ e. cc)))
  widened_fits Double xs h = (h, ((λ e. cc), (λ e. cc)))
  widened_fits Utf8 xs h = (h, ((λ e. cc), (λ e. cc)))

  module _ (e : Entry) (p : Plausible e) (inside : has_raw b o e ≡ true) where
    abbrev es : Form → List Element
    es f = entry_elements b o e f

    of_form : (f : Form) → AllByRecursion (IsOf f) (es f)
    unfolding entry_elements
    of_form f = IsOf_elements o f e.count (raw b o e) (bytes_raw e p.bytes)

    length_bytes : (f : Form) → size f ≡ 1 → form_of e.code ≡ Some f → length (raw b o e) ≡ e.count
    unfolding raw_size
    length_bytes f one q = length_raw e p.four inside ∙ ap (λ f. sized f e.count) q ∙ ap (λ k. e.count * k) one ∙ omega arith

    record_stays : (f : Form) → form_of e.code ≡ Some f → record_in f (raw b o e) ≡ None
        → record_in f (encoded Least (record { kind = Of f; elements = es f })) ≡ None
    unfolding encoded entry_elements
    record_stays Byte q h = ap iim_of (bytes_back o e.count (raw b o e) (length_bytes Byte refl q)) ∙ h
    record_stays Undefined q h = ap iim_of (undefined_back o e.count (raw b o e) (length_bytes Undefined refl q)) ∙ h
    record_stays _ q h = refl

    record_fits : (f : Form) (c : Option Iim) (v : Value) → form_of e.code ≡ Some f → record_in f (raw b o e) ≡ c
        → unless_record c (record { kind = Of f; elements = es f }) ≡ Some v → IsValue v × Allows Record v
    record_fits f None v q k h = let j : record { kind = Of f; elements = es f } ≡ v = cc in
        subst (λ v. IsValue v × Allows Record v) j (of_form f, ((λ e. cc), record_stays f q k))
    record_fits f (Some i) v q k h = cc

    value_fits : (r : Role) (f : Form) (v : Value) → form_of e.code ≡ Some f → field_value_in b o e r f ≡ Some v → IsValue v × Allows r v
    value_fits Plain f v q h =
        let j : record { kind = Of f; elements = es f } ≡ v = cc in subst (λ v. IsValue v × Allows Plain v) j (of_form f, (λ e. cc))
    value_fits Widened f v q h =
        let j : widened_value f (es f) ≡ v = cc in subst (λ v. IsValue v × Allows Widened v) j (widened_fits f (es f) (of_form f))
    value_fits Record f v q h = record_fits f (record_in f (raw b o e)) v q refl h
    value_fits Forbidden f v q h = cc
    value_fits JpegOffset f v q h = cc
    value_fits JpegLength f v q h = cc
    value_fits StripOffsets f v q h = cc
    value_fits StripLengths f v q h = cc
    value_fits (To d) f v q h = cc

  -- the value of an entry, if it is a field
  abbrev pub value_of : Dir → Entry → Option Value
  value_of d e = option_and_then (field_value_in b o e (role d e.tag)) (form_of e.code)

  entry_fits : (d : Dir) (e : Entry) → Plausible e → IsEntry b o d e → (v : Value) → value_of d e ≡ Some v → IsWritableField d (e.tag, v)
  entry_fits d e p i v h = known (form_of e.code) refl h
    where
      known : (f : Option Form) → form_of e.code ≡ f → option_and_then (field_value_in b o e (role d e.tag)) f ≡ Some v
          → IsWritableField d (e.tag, v)
      known None q h = cc
      known (Some f) q h = let r = value_fits e p i.inside (role d e.tag) f v q h in record { tag = p.tag; allowed = r.1; value = r.0 }

  -- ---- the fields of a directory

  abbrev made : (Entry → Option Value) → Entry → Option (ℕ × Value)
  made val e = option_map (λ v. (e.tag, v)) (val e)

  above_made : (val : Entry → Option Value) (t : ℕ) (es : List Entry) → AllByRecursion (λ u. t < u) (map (λ e. e.tag) es)
      → AllByRecursion (λ u. t < u) (map (λ (p : ℕ × Value). p.0) (filter_map (made val) es))
  above_made val t [] h = tt
  above_made val t (e ∷ es) h = go (val e) (above_made val t es h.1)
    where
      go : (x : Option Value) → AllByRecursion (λ u. t < u) (map (λ (p : ℕ × Value). p.0) (filter_map (made val) es))
          → AllByRecursion (λ u. t < u) (map (λ (p : ℕ × Value). p.0) (cons_option (option_map (λ v. (e.tag, v)) x)
          (filter_map (made val) es)))
      go None k = k
      go (Some v) k = (h.0, k)

  rising_made : (val : Entry → Option Value) (es : List Entry) → Rising (map (λ e. e.tag) es)
      → Rising (map (λ (p : ℕ × Value). p.0) (filter_map (made val) es))
  rising_made val [] h = tt
  rising_made val (e ∷ es) h = go (val e) (rising_made val es h.1)
    where
      go : (x : Option Value) → Rising (map (λ (p : ℕ × Value). p.0) (filter_map (made val) es))
          → Rising (map (λ (p : ℕ × Value). p.0) (cons_option (option_map (λ v. (e.tag, v)) x) (filter_map (made val) es)))
      go None k = k
      go (Some v) k = (above_made val e.tag es h.0, k)

  each_made : (P : ℕ × Value → Type 0) (val : Entry → Option Value) (es : List Entry)
      → AllByRecursion (λ e. (v : Value) → val e ≡ Some v → P (e.tag, v)) es → AllByRecursion P (filter_map (made val) es)
  each_made P val [] h = tt
  each_made P val (e ∷ es) h = go (val e) refl (each_made P val es h.1)
    where
      go : (x : Option Value) → val e ≡ x → AllByRecursion P (filter_map (made val) es)
          → AllByRecursion P (cons_option (option_map (λ v. (e.tag, v)) x) (filter_map (made val) es))
      go None q k = k
      go (Some v) q k = (h.0 v q, k)

  pub fields_fit : (d : Dir) (a : ℕ) → IsDirectory b o d a → AreWritableFields d (fields b o d a)
  unfolding fields field
  fields_fit d a is = record {
    rising = rising_made (value_of d) (entries_at b o a) is.rising;
    each = each_made (IsWritableField d) (value_of d) (entries_at b o a) (each_map₂ Plausible (IsEntry b o d)
        (λ e. (v : Value) → value_of d e ≡ Some v → IsWritableField d (e.tag, v)) (entry_fits d) (entries_at b o a)
        (entries_plausible d a is)
        is.each);
  }
