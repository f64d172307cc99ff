-- The fields of a directory are exactly the pairs of its plain and widened entries.
use Rattle.std.proofs.Common.{◌≡◌, ℕ, ◌*◌, true, Option, Some, None, option_map, option_and_then, List, map, length, refl, sym, ◌∙◌, ap}
use Rattle.std.proofs.Common.{ap₂, subst}
use Rattle.std.specs.Prelude.{Contains, ◌↔◌}
use Rattle.std.specs.List.{AllByRecursion}
use Rattle.px_bytes.specs.declared.Order.{Order}
use Rattle.px_bytes.specs.Numbers.{AreBytes}
use Rattle.px_bytes.specs.lemmas.EachLaws.{each_map₂}
use Rattle.px_field.specs.declared.Form.{Form}
use Rattle.px_field.specs.declared.Form.TheVariants.{Short, Long}
use Rattle.px_field.specs.declared.Kind.{Kind}
use Rattle.px_field.specs.declared.Kind.TheVariants.{Of, Whole}
use Rattle.px_field.specs.declared.Element.{Element}
use Rattle.px_field.specs.Forms.{form_of, size}
use Rattle.px_field.specs.Values.{Value, elements, encoded, widened}
use Rattle.px_field.specs.lemmas.ValueLaws.{IsOf_elements, encode_elements, length_encoded, elements_encoded, count_in_times}
use Rattle.px_meaning.specs.Iim.{Iim}
use Rattle.px_meaning.specs.declared.roles.Dir.{Dir}
use Rattle.px_meaning.specs.declared.roles.Role.{Role}
use Rattle.px_meaning.specs.declared.roles.Role.TheVariants.{Plain, Widened, Forbidden, Record, JpegOffset, JpegLength, StripOffsets}
use Rattle.px_meaning.specs.declared.roles.Role.TheVariants.{StripLengths, To}
use Rattle.px_meaning.specs.Roles.{role}
use Rattle.px_meaning.specs.Entry.{Entry, raw, raw_size, sized, has_raw, IsEntry, IsDirectory, entry_elements, widened_value, record_in}
use Rattle.px_meaning.specs.Entry.{unless_record, field_value_in, field, fields}
use Rattle.px_meaning.specs.Directory.{entries_at}
use Rattle.px_meaning.specs.Laws.{Encodes, IsTyped, IsWhole, IsWidened, IsValueAt, Means}
use Rattle.px_meaning.specs.lemmas.Members.{each_member, Made, made_from, made_into}
use Rattle.px_meaning.specs.lemmas.FitsBack.{Plausible, entries_plausible, bytes_raw, length_raw}

-- only the elements that are read encode to the bytes
only_elements : (o : Order) (f : Form) (n : ℕ) (x : List ℕ) (es : List Element) → length x ≡ n * size f → Encodes o f es x
    → es ≡ elements o f n x
unfolding encoded
only_elements o f n x es l s =
    let v : Value = record { kind = Of f; elements = es } in
    let e = elements_encoded o v s.each in
    let k : length x ≡ length es * size f = ap (λ (y : List ℕ). length y) (sym s.encoded_is) ∙ length_encoded o v s.each in
    let c : length es ≡ n = sym (count_in_times f x (length es) (sym k)) ∙ count_in_times f x n (sym l) in
    sym e ∙ ap₂ (λ (m : ℕ) (y : List ℕ). elements o f m y) c s.encoded_is

module _ (b : List ℕ) (o : Order) (bytes : AreBytes b) (e : Entry) (p : Plausible e) (inside : has_raw b o e ≡ true) (f : Form)
    (known : form_of e.code ≡ Some f) where
  abbrev read : List Element
  read = entry_elements b o e f

  size_is : length (raw b o e) ≡ e.count * size f
  unfolding raw_size
  size_is = length_raw b o bytes e p.four inside ∙ ap (λ f. sized f e.count) known

  encodes : Encodes o f read (raw b o e)
  unfolding entry_elements
  encodes = record {
    each = IsOf_elements o f e.count (raw b o e) (bytes_raw b o bytes e p.bytes);
    encoded_is = encode_elements o f e.count (raw b o e) size_is (bytes_raw b o bytes e p.bytes);
  }

  only_read : (es : List Element) → Encodes o f es (raw b o e) → es ≡ read
  unfolding entry_elements
  only_read es s = only_elements o f e.count (raw b o e) es size_is s

  typed : IsTyped b o e f (record { kind = Of f; elements = read })
  typed = record { kind = refl; encode = encodes }

  only_typed : (v : Value) → IsTyped b o e f v → record { kind = Of f; elements = read } ≡ v
  only_typed v t =
      ap₂ (λ (k : Kind) (es : List Element). record { kind = k; elements = es }) (sym t.kind) (sym (only_read v.elements t.encode))

  whole : IsWhole b o e f (record { kind = Whole; elements = map widened read })
  whole = record { kind = refl; numbers = read; encode = encodes; widened_is = refl }

  only_whole : (v : Value) → IsWhole b o e f v → record { kind = Whole; elements = map widened read } ≡ v
  only_whole v t =
      ap₂ (λ (k : Kind) (es : List Element). record { kind = k; elements = es }) (sym t.kind)
      (ap (map widened) (sym (only_read t.numbers t.encode)) ∙ sym t.widened_is)

  -- ---- by role

  record_to : (v : Value) (c : Option Iim) → record_in f (raw b o e) ≡ c
      → unless_record c (record { kind = Of f; elements = read }) ≡ Some v → (record_in f (raw b o e) ≡ None) × IsTyped b o e f v
  record_to v None q h = let j : record { kind = Of f; elements = read } ≡ v = cc in (q, subst (IsTyped b o e f) j typed)
  record_to v (Some i) q h = cc

  record_from : (v : Value) → record_in f (raw b o e) ≡ None → IsTyped b o e f v
      → unless_record (record_in f (raw b o e)) (record { kind = Of f; elements = read }) ≡ Some v
  record_from v q t = ap (λ c. unless_record c (record { kind = Of f; elements = read })) q ∙ ap Some (only_typed v t)

wide_to : (b : List ℕ) (o : Order) (e : Entry) (f : Form) (v : Value)
    → IsTyped b o e f (record { kind = Of f; elements = entry_elements b o e f })
    → IsWhole b o e f (record { kind = Whole; elements = map widened (entry_elements b o e f) })
    → widened_value f (entry_elements b o e f) ≡ v → IsWidened b o e f v
wide_to b o e Short v t w q = subst (IsWhole b o e Short) q w
wide_to b o e Long v t w q = subst (IsWhole b o e Long) q w
wide_to b o e f v t w q = subst (IsTyped b o e f) q t

wide_from : (b : List ℕ) (o : Order) (e : Entry) (f : Form) (v : Value)
    → (IsTyped b o e f v → record { kind = Of f; elements = entry_elements b o e f } ≡ v)
    → (IsWhole b o e f v → record { kind = Whole; elements = map widened (entry_elements b o e f) } ≡ v) → IsWidened b o e f v
    → widened_value f (entry_elements b o e f) ≡ v
wide_from b o e Short v t w h = w h
wide_from b o e Long v t w h = w h
wide_from b o e f v t w h = t h

module _ (b : List ℕ) (o : Order) (bytes : AreBytes b) (e : Entry) (p : Plausible e) (inside : has_raw b o e ≡ true) where
  value_to : (r : Role) (f : Form) (v : Value) → form_of e.code ≡ Some f → field_value_in b o e r f ≡ Some v → IsValueAt b o e r f v
  value_to Plain f v k h = let j : record { kind = Of f; elements = entry_elements b o e f } ≡ v = cc in
      subst (IsTyped b o e f) j (typed b o bytes e p inside f k)
  value_to Widened f v k h = let j : widened_value f (entry_elements b o e f) ≡ v = cc in
      wide_to b o e f v (typed b o bytes e p inside f k) (whole b o bytes e p inside f k) j
  value_to Record f v k h = record_to b o bytes e p inside f k v (record_in f (raw b o e)) refl h
  value_to Forbidden f v k h = cc
  value_to JpegOffset f v k h = cc
  value_to JpegLength f v k h = cc
  value_to StripOffsets f v k h = cc
  value_to StripLengths f v k h = cc
  value_to (To d) f v k h = cc

  value_from : (r : Role) (f : Form) (v : Value) → form_of e.code ≡ Some f → IsValueAt b o e r f v → field_value_in b o e r f ≡ Some v
  value_from Plain f v k h = ap Some (only_typed b o bytes e p inside f k v h)
  value_from Widened f v k h =
      ap Some (wide_from b o e f v (only_typed b o bytes e p inside f k v) (only_whole b o bytes e p inside f k v) h)
  value_from Record f v k h = record_from b o bytes e p inside f k v h.0 h.1
  value_from Forbidden f v k h = absurd h
  value_from JpegOffset f v k h = absurd h
  value_from JpegLength f v k h = absurd h
  value_from StripOffsets f v k h = absurd h
  value_from StripLengths f v k h = absurd h
  value_from (To d) f v k h = absurd h

  -- ---- one entry

  -- the value of an entry at a tag
  abbrev MeansAt : Dir → ℕ → Value → Type 0
  MeansAt d t v = (f : Form) × (e.tag ≡ t) × (form_of e.code ≡ Some f) × IsValueAt b o e (role d t) f v

  pair_to : (d : Dir) (t : ℕ) (v : Value) (f : Form) (w : Option Value) → form_of e.code ≡ Some f → field_value_in b o e (role d e.tag) f ≡ w
      → ◌≡◌ {A = Option (ℕ × Value)} (option_map (λ v. (e.tag, v)) w) (Some (t, v)) → MeansAt d t v
  pair_to d t v f None k q h = cc
  pair_to d t v f (Some u) k q h =
      let j : ◌≡◌ {A = ℕ × Value} (e.tag, u) (t, v) = cc in
      let at : e.tag ≡ t = ap (λ (x : ℕ × Value). x.0) j in
      let is : u ≡ v = ap (λ (x : ℕ × Value). x.1) j in
      (f, at, k, subst (λ (s : ℕ). IsValueAt b o e (role d s) f v) at (value_to (role d e.tag) f v k (q ∙ ap Some is)))

  field_to : (d : Dir) (t : ℕ) (v : Value) → ◌≡◌ {A = Option (ℕ × Value)} (field b o d e) (Some (t, v)) → MeansAt d t v
  unfolding field
  field_to d t v h = go (form_of e.code) refl h
    where
      go : (z : Option Form) → form_of e.code ≡ z → ◌≡◌ {A = Option (ℕ × Value)}
          (option_map (λ v. (e.tag, v)) (option_and_then (field_value_in b o e (role d e.tag)) z)) (Some (t, v)) → MeansAt d t v
      go None k q = cc
      go (Some f) k q = pair_to d t v f (field_value_in b o e (role d e.tag) f) k refl q

  field_from : (d : Dir) (t : ℕ) (v : Value) (f : Form) → e.tag ≡ t → form_of e.code ≡ Some f → IsValueAt b o e (role d t) f v
      → ◌≡◌ {A = Option (ℕ × Value)} (field b o d e) (Some (t, v))
  unfolding field
  field_from d t v f at k m =
      let pair : ℕ → Option (ℕ × Value) = λ (s : ℕ). Some (s, v) in
      ap (λ (z : Option Form). option_map {U = ℕ × Value} (λ v. (e.tag, v)) (option_and_then (field_value_in b o e (role d e.tag)) z)) k
      ∙ ap (option_map {U = ℕ × Value} (λ v. (e.tag, v))) (value_from (role d e.tag) f v k
      (subst (λ (s : ℕ). IsValueAt b o e (role d s) f v) (sym at) m))
      ∙ ap pair at

-- ---- the fields of a directory

module _ (b : List ℕ) (o : Order) (d : Dir) (a t : ℕ) (v : Value) (bytes : AreBytes b) (is : IsDirectory b o d a) where
  abbrev InOrder : Entry → Type 0
  InOrder e = Plausible e × IsEntry b o d e

  in_order : AllByRecursion InOrder (entries_at b o a)
  in_order = each_map₂ Plausible (IsEntry b o d) InOrder (λ e p i. (p, i)) (entries_at b o a) (entries_plausible b o bytes d a is) is.each

  to_means : Contains (fields b o d a) (t, v) → Means b o d a t v
  unfolding fields
  to_means c =
      let m : Made (field b o d) (t, v) (entries_at b o a) = made_from (field b o d) (t, v) (entries_at b o a) c in
      let i = each_member InOrder (entries_at b o a) m.0 in_order m.1 in
      let r = field_to b o bytes m.0 i.0 i.1.inside d t v m.2 in
      (m.0, r.0, m.1, r.1, r.2, r.3)

  from_means : Means b o d a t v → Contains (fields b o d a) (t, v)
  unfolding fields
  from_means (e, f, c, at, k, m) =
      let i = each_member InOrder (entries_at b o a) e in_order c in
      made_into (field b o d) (t, v) (entries_at b o a) e c (field_from b o bytes e i.0 i.1.inside d t v f at k m)

pub fields_are_pairs : (b : List ℕ) (o : Order) (d : Dir) (a t : ℕ) (v : Value) → AreBytes b → IsDirectory b o d a
    → (Contains (fields b o d a) (t, v) ↔ Means b o d a t v)
fields_are_pairs b o d a t v bytes is = (to_means b o d a t v bytes is, from_means b o d a t v bytes is)
