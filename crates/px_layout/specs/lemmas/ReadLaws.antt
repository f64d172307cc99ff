-- The meaning of an entry that was laid out, and that it is valid.
use Rattle.std.proofs.Common.{◌≡◌, ℕ, ◌≤◌, arith, true, ◌&&◌, ◌||◌, eqb, Some, None, is_some, option_map, option_and_then, List, [], ◌∷◌}
use Rattle.std.proofs.Common.{map, flat_map, length, refl, ◌∙◌, ap, ap₂}
use Rattle.std.specs.List.{AllByRecursion}
use Rattle.px_bytes.specs.declared.Order.{Order}
use Rattle.px_bytes.specs.declared.Order.TheVariants.{Least}
use Rattle.px_bytes.specs.Parts.{limit}
use Rattle.px_field.specs.declared.Form.{Form}
use Rattle.px_field.specs.declared.Form.TheVariants.{Byte, Short, Long, Undefined}
use Rattle.px_field.specs.declared.Element.TheVariants as element
use Rattle.px_field.specs.Forms.{code}
use Rattle.px_field.specs.declared.Element.{Element}
use Rattle.px_field.specs.Values.{encode, IsOf, Value, IsValue, form_in, encoded, elements, widened}
use Rattle.px_field.specs.declared.Kind.{Kind}
use Rattle.px_field.specs.declared.Kind.TheVariants.{Of, Whole}
use Rattle.px_field.specs.lemmas.ValueLaws.{elements_encoded}
use Rattle.px_field.specs.lemmas.FormLaws.{form_of_code}
use Rattle.px_meaning.specs.Iim.{iim_of}
use Rattle.px_meaning.specs.declared.Dir.{Dir}
use Rattle.px_meaning.specs.declared.Role.{Role}
use Rattle.px_meaning.specs.declared.Role.TheVariants.{Plain, Widened, Forbidden, Record, JpegOffset, JpegLength, StripOffsets}
use Rattle.px_meaning.specs.declared.Role.TheVariants.{StripLengths}
use Rattle.px_meaning.specs.declared.Role.TheVariants.{To}
use Rattle.px_meaning.specs.Roles.{role}
use Rattle.px_meaning.specs.Entry.{Entry, raw, has_form, is_allowed, IsEntry, entry_elements, widened_value, record_in, unless_record}
use Rattle.px_meaning.specs.Entry.{field_value_in, field}
use Rattle.px_meaning.specs.Writable.{Item, Field, Iptc, Link, AtJpeg, JpegSize, AtStrips, StripSizes, item_form, item_count, item_size}
use Rattle.px_layout.specs.Plans.{Plan}
use Rattle.px_layout.specs.Laid.{item_bytes}
use Rattle.px_layout.specs.lemmas.ItemLaws.{Suits, item_value, item_field, IsHere, entry_of, raw_is, has_raw_is, iim_normal}

-- the bytes of BYTE and UNDEFINED don't turn with the order
byte_encoded : (o : Order) (es : List Element) → AllByRecursion (IsOf Byte) es → flat_map (encode o) es ≡ flat_map (encode Least) es
byte_encoded o [] h = refl
byte_encoded o (element.Byte n ∷ es) h = ap (λ ys. n ∷ ys) (byte_encoded o es h.1)
byte_encoded o (_ ∷ es) h = absurd h.0

undefined_encoded : (o : Order) (es : List Element) → AllByRecursion (IsOf Undefined) es
    → flat_map (encode o) es ≡ flat_map (encode Least) es
undefined_encoded o [] h = refl
undefined_encoded o (element.Byte n ∷ es) h = ap (λ ys. n ∷ ys) (undefined_encoded o es h.1)
undefined_encoded o (_ ∷ es) h = absurd h.0

pub record_turned : (o : Order) (f : Form) (v : Value) → AllByRecursion (IsOf f) v.elements
    → record_in f (encoded o v) ≡ record_in f (encoded Least v)
unfolding encoded
record_turned o Byte v h = ap iim_of (byte_encoded o v.elements h)
record_turned o Undefined v h = ap iim_of (undefined_encoded o v.elements h)
record_turned o _ v h = refl

long_widened : (es : List Element) → AllByRecursion (IsOf Long) es → map widened es ≡ es
long_widened [] h = refl
long_widened (element.Long n ∷ es) h = ap (λ ys. element.Long n ∷ ys) (long_widened es h.1)
long_widened (_ ∷ es) h = absurd h.0

widened_of : (f : Form) (es : List Element) → (Of f ≡ Of Short → ⊥) → (Of f ≡ Of Long → ⊥)
    → widened_value f es ≡ record { kind = Of f; elements = es }
widened_of Short es h k = absurd (h refl)
widened_of Long es h k = absurd (k refl)
widened_of _ es h k = refl

module _ (plan : Plan) (o : Order) (filler : ℕ) (b : List ℕ) where
  elements_are : (v : Value) (e : Entry) → IsValue v → raw b o e ≡ item_bytes plan o filler (Field v) → e.count ≡ length v.elements
      → entry_elements b o e (form_in v.kind) ≡ v.elements
  unfolding entry_elements item_bytes
  elements_are v e h r c = ap₂ (elements o (form_in v.kind)) c r ∙ elements_encoded o v h

  plain_is : (k : Kind) (es : List Element) (e : Entry) → (k ≡ Whole → ⊥) → entry_elements b o e (form_in k) ≡ es
      → field_value_in b o e Plain (form_in k) ≡ Some (record { kind = k; elements = es })
  plain_is (Of f) es e n h = ap (λ xs. Some (record { kind = Of f; elements = xs })) h
  plain_is Whole es e n h = absurd (n refl)

  widened_is : (k : Kind) (es : List Element) (e : Entry) → (k ≡ Of Short → ⊥) → (k ≡ Of Long → ⊥) → AllByRecursion (IsOf (form_in k)) es
      → entry_elements b o e (form_in k) ≡ es → field_value_in b o e Widened (form_in k) ≡ Some (record { kind = k; elements = es })
  widened_is (Of f) es e n m v h = ap (λ xs. Some (widened_value f xs)) h ∙ ap (λ x. Some x) (widened_of f es n m)
  widened_is Whole es e n m v h = ap (λ xs. Some (record { kind = Whole; elements = map widened xs })) h
      ∙ ap (λ xs. Some (record { kind = Whole; elements = xs })) (long_widened es v)

  record_is : (k : Kind) (es : List Element) (e : Entry) → (k ≡ Whole → ⊥) → record_in (form_in k) (raw b o e) ≡ None
      → entry_elements b o e (form_in k) ≡ es → field_value_in b o e Record (form_in k) ≡ Some (record { kind = k; elements = es })
  record_is (Of f) es e n c h = ap₂ (λ i xs. unless_record i (record { kind = Of f; elements = xs })) c h
  record_is Whole es e n c h = absurd (n refl)

  value_is : (r : Role) (x : Item) (e : Entry) → Suits r x → item_size x ≤ limit → raw b o e ≡ item_bytes plan o filler x
      → e.count ≡ item_count x → field_value_in b o e r (item_form x) ≡ item_value x
  unfolding item_bytes item_size
  value_is Plain (Field v) e h s r c = plain_is v.kind v.elements e h.1 (elements_are v e h.0 r c)
  value_is Widened (Field v) e h s r c = widened_is v.kind v.elements e h.1.0 h.1.1 h.0 (elements_are v e h.0 r c)
  value_is Record (Field v) e h s r c =
      record_is v.kind v.elements e h.1.0 (ap (record_in (form_in v.kind)) r ∙ record_turned o (form_in v.kind) v h.0
      ∙ h.1.1) (elements_are v e h.0 r c)
  value_is Record (Iptc i) e h s r c =
      ap (λ x. unless_record x (record { kind = Of Undefined; elements = entry_elements b o e Undefined })) (ap iim_of r
      ∙ iim_normal i h (omega arith))
  value_is (To d) (Link e') e h s r c = refl
  value_is JpegOffset AtJpeg e h s r c = refl
  value_is JpegLength (JpegSize n) e h s r c = refl
  value_is StripOffsets (AtStrips n) e h s r c = refl
  value_is StripLengths (StripSizes ns) e h s r c = refl
  value_is _ _ e h s r c = absurd h

  form_is : (r : Role) (x : Item) (e : Entry) → Suits r x → e.code ≡ code (item_form x) → e.count ≡ item_count x → has_form r e ≡ true
  form_is (To d) (Link e') e h k c = ap₂ (λ x y. (eqb x 4) && (eqb y 1)) k c
  form_is JpegOffset AtJpeg e h k c = ap₂ (λ x y. (eqb x 4) && (eqb y 1)) k c
  form_is JpegLength (JpegSize n) e h k c = ap₂ (λ x y. (eqb x 4) && (eqb y 1)) k c
  form_is StripOffsets (AtStrips n) e h k c = ap (λ x. (eqb x 3) || (eqb x 4)) k
  form_is StripLengths (StripSizes ns) e h k c = ap (λ x. (eqb x 3) || (eqb x 4)) k
  form_is Plain (Field v) e h k c = refl
  form_is Widened (Field v) e h k c = refl
  form_is Record (Field v) e h k c = refl
  form_is Record (Iptc i) e h k c = refl
  form_is _ _ e h k c = absurd h

  allowed_is : (r : Role) (x : Item) → Suits r x → is_allowed r ≡ true
  allowed_is (To d) x h = refl
  allowed_is Forbidden (Field v) h = absurd h
  allowed_is Forbidden (Iptc i) h = absurd h
  allowed_is Forbidden (Link d) h = absurd h
  allowed_is Forbidden AtJpeg h = absurd h
  allowed_is Forbidden (JpegSize n) h = absurd h
  allowed_is Forbidden (AtStrips n) h = absurd h
  allowed_is Forbidden (StripSizes ns) h = absurd h
  allowed_is _ x h = refl

  module _ (d : Dir) (i : ℕ × Item) (h : IsHere plan o filler b d i) where
    pub field_is : field b o d (entry_of plan o filler d i) ≡ item_field i
    unfolding field entry_of
    field_is =
        ap (λ f. option_map (λ v. (i.0, v)) (option_and_then (field_value_in b o (entry_of plan o filler d i) (role d i.0)) f))
        (form_of_code (item_form i.1))
        ∙ ap (option_map (λ v. (i.0, v))) (value_is (role d i.0) i.1 (entry_of plan o filler d i) h.suits h.bounded
        (raw_is plan o filler b d i h) refl)

    pub entry_in_order : IsEntry b o d (entry_of plan o filler d i)
    unfolding entry_of
    entry_in_order = record {
      known = ap is_some (form_of_code (item_form i.1));
      allowed = allowed_is (role d i.0) i.1 h.suits;
      formed = form_is (role d i.0) i.1 (entry_of plan o filler d i) h.suits refl refl;
      inside = has_raw_is plan o filler b d i h;
    }
