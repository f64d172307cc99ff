-- The value that contracts see of a `Value`.
use Rattle.std.proofs.Common.{◌≡◌, ◌<◌, ◌≤◌, ◌+◌, ◌*◌, ◌/◌, ◌%◌, ℕ, Bool, true, false, List, length, map, flat_map, slice_get, Some, ap}
use Rattle.std.proofs.Common.{subst, sym, ◌∙◌, refl, arith}
use Rattle.std.specs.Option.{option_map}
use Rattle.std.proofs.Math.Nat.{div-mul-le_self, mul-le-mul_right}
use Rattle.std.proofs.lemmas.List.{length-map}
use Rattle.std.proofs.lemmas.Option.{slice_get-map}
use Rattle.px_bytes.specs.declared.Order.{Order}
use Rattle.px_bytes.specs.Numbers.{AreBytes}
use Rattle.px_bytes.specs.lemmas.EachLaws.{all_at}
use Rattle.px_field.specs.declared.forms.Form.{Form}
use Rattle.px_field.specs.declared.forms.Form.TheVariants as form
use Rattle.px_field.specs.declared.forms.Kind.{Kind}
use Rattle.px_field.specs.declared.forms.Kind.TheVariants as kind
use Rattle.px_field.specs.declared.forms.Element.{Element}
use Rattle.px_field.specs.declared.forms.Element.TheVariants as element
use Rattle.px_field.specs.Forms.{size}
use Rattle.px_field.specs.Values.{elements, widened, count_in, form_in, IsValue, IsWhole, IsOf, Value, is_bytes, encode, encoded, value_in}
use Rattle.px_field.specs.Values.{whole_in}
use Rattle.px_field.specs.lemmas.ValueLaws.{length_elements, IsValue_value_in, IsValue_whole_in, count_in_whole, elements_bytes}
use Rattle.px_field.specs.lemmas.ValueLaws.{encode_bytes, encoded_value_in, encoded_whole_in, value_in_encoded, whole_in_encoded}
use Rattle.px_field.specs.calls.Views.{shown}

-- the bytes contain the element
pub element_fits : (i n : ℕ) (f : Form) → i < n / size f → i * size f + size f ≤ n
element_fits i n f h =
    let whole : n / size f * size f ≤ n = div-mul-le_self n (size f) in
    let below : (i + 1) * size f ≤ n / size f * size f = mul-le-mul_right (size f) (omega arith) in
    omega arith

-- as many elements as the bytes contain
pub length_shown : (w : Bool) (o : Order) (f : Form) (raw : List ℕ) → length (shown w o f raw).elements ≡ count_in f raw
length_shown true o f raw = length-map (elements o f (count_in f raw) raw) widened ∙ length_elements o f (count_in f raw) raw
length_shown false o f raw = length_elements o f (count_in f raw) raw

-- in their ranges
pub IsValue_shown : (w : Bool) (o : Order) (f : Form) (raw : List ℕ) → (w ≡ true → IsWhole f) → AreBytes raw → IsValue (shown w o f raw)
IsValue_shown true o f raw whole are = IsValue_whole_in o f raw (whole refl) are
IsValue_shown false o f raw whole are = IsValue_value_in o f raw are

-- the element at i, widened or not
pub get_whole : (o : Order) (f : Form) (raw : List ℕ) (i : ℕ) (e : Element) → slice_get (elements o f (count_in f raw) raw) i ≡ Some e
    → slice_get (shown true o f raw).elements i ≡ Some (widened e)
get_whole o f raw i e h = slice_get-map widened (elements o f (count_in f raw) raw) i ∙ ap (option_map widened) h

-- the size of the value
pub size_shown : (w : Bool) (o : Order) (f : Form) (raw : List ℕ) → length raw % size f ≡ 0 → w ≡ false
    → length (shown w o f raw).elements * size (form_in (shown w o f raw).kind) ≡ length raw
size_shown true o f raw whole e = absurd (cc)
size_shown false o f raw whole e = ap (λ (n : ℕ). n * size f) (length_elements o f (count_in f raw) raw) ∙ count_in_whole f raw whole

pub size_whole : (w : Bool) (o : Order) (f : Form) (raw : List ℕ) → w ≡ true → size (form_in (shown w o f raw).kind) ≡ 4
size_whole true o f raw e = refl
size_whole false o f raw e = absurd (cc)

-- a byte type is not widened, and its elements are the bytes
pub bytes_shown : (w : Bool) (o : Order) (f : Form) (raw : List ℕ) → (w ≡ true → IsWhole f) → is_bytes (kind.Of f) ≡ true
    → (shown w o f raw).elements ≡ map element.Byte raw
bytes_shown true o form.Short raw whole b = absurd (cc)
bytes_shown true o form.Long raw whole b = absurd (cc)
bytes_shown true o _ raw whole b = absurd (whole refl)
bytes_shown false o f raw whole b = elements_bytes o f raw b

-- an element of the value is of its kind
pub IsOf_shown : (w : Bool) (o : Order) (f : Form) (raw : List ℕ) (v : Value) (i : ℕ) (e : Element) → (w ≡ true → IsWhole f) → AreBytes raw
    → shown w o f raw ≡ v → slice_get v.elements i ≡ Some e → IsOf (form_in v.kind) e
IsOf_shown w o f raw v i e whole are seen here =
    let is : IsValue v = rw (← seen) (IsValue_shown w o f raw whole are) in
    all_at (IsOf (form_in v.kind)) v.elements i e is here

-- ---- encoding a decoded value returns its bytes

-- in either order, if an element is one byte
pub encoded_one : (w : Bool) (o p : Order) (f : Form) (raw : List ℕ) → (w ≡ true → IsWhole f) → size f ≡ 1
    → encoded p (shown w o f raw) ≡ raw
unfolding encoded
encoded_one w o p f raw whole one =
    ap (λ (es : List Element). flat_map (encode p) es) (bytes_shown w o f raw whole (bytes_from_size f one)) ∙ encode_bytes p raw
  where
    bytes_from_size : (f : Form) → size f ≡ 1 → is_bytes (kind.Of f) ≡ true
    bytes_from_size form.Byte e = refl
    bytes_from_size form.Ascii e = refl
    bytes_from_size form.SByte e = refl
    bytes_from_size form.Undefined e = refl
    bytes_from_size form.Utf8 e = refl
    bytes_from_size _ e = absurd (omega arith)

-- in the order of reading, if they aren't widened
pub encoded_plain : (w : Bool) (o p : Order) (f : Form) (raw : List ℕ) → w ≡ false → o ≡ p → length raw % size f ≡ 0 → AreBytes raw
    → encoded p (shown w o f raw) ≡ raw
encoded_plain true o p f raw plain same whole are = absurd (cc)
encoded_plain false o p f raw plain same whole are = rw same (encoded_value_in p f raw whole are)

-- for LONGs, widened or not
pub encoded_long : (w : Bool) (o p : Order) (f : Form) (raw : List ℕ) → f ≡ form.Long → o ≡ p → length raw % size f ≡ 0 → AreBytes raw
    → encoded p (shown w o f raw) ≡ raw
encoded_long true o p f raw long same whole are =
    rw (same, long) (encoded_whole_in p raw (subst (λ (g : Form). length raw % size g ≡ 0) long whole) are)
encoded_long false o p f raw long same whole are = encoded_plain false o p f raw refl same whole are

-- values of one kind with the same encoding are the same
pub same_encoded : (o : Order) (a b : Value) → a.kind ≡ b.kind → IsValue a → IsValue b → encoded o a ≡ encoded o b → a ≡ b
same_encoded o a b k h j e = go a.kind refl
  where
    go : (t : Kind) → a.kind ≡ t → a ≡ b
    go (kind.Of f) s = sym (value_in_encoded o f a s h) ∙ ap (value_in o f) e ∙ value_in_encoded o f b (sym k ∙ s) j
    go kind.Whole s = sym (whole_in_encoded o a s h) ∙ ap (whole_in o form.Long) e ∙ whole_in_encoded o b (sym k ∙ s) j
