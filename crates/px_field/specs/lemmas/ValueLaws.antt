-- Laws of values: decoding an encoded value returns it, and encoding a decoded one returns its bytes.
use Rattle.std.proofs.Common.{◌≡◌, ℕ, zero, suc, ◌*◌, ◌/◌, ◌%◌, ◌<◌, ◌≤◌, List, [], ◌∷◌, ◌++◌, map, flat_map, length, take, drop, slice_get}
use Rattle.std.proofs.Common.{slice_index, Some, true, refl, sym, ◌∙◌, ap, ap₂, arith, append-nil, append_assoc, length-drop}
use Rattle.std.proofs.Common.{take-append-drop}
use Rattle.std.specs.List.{AllByRecursion}
use Rattle.std.proofs.lemmas.List.{length-map, length-take-le, nil_from_length}
use Rattle.std.proofs.lemmas.Option.{slice_get-map}
use Rattle.std.proofs.Math.Nat.{div-add-mod', mul-div_cancel, mul-mod_left}
use Rattle.std.specs.Option.{option_map}
use Rattle.px_bytes.specs.declared.Order.{Order}
use Rattle.px_bytes.specs.Numbers.{AreBytes}
use Rattle.px_bytes.specs.Parts.{pieces}
use Rattle.px_field.specs.declared.forms.Form.{Form}
use Rattle.px_field.specs.declared.forms.Form.TheVariants as form
use Rattle.px_field.specs.declared.forms.Kind.{Kind}
use Rattle.px_field.specs.declared.forms.Kind.TheVariants as kind
use Rattle.px_field.specs.declared.forms.Element.{Element}
use Rattle.px_field.specs.declared.forms.Element.TheVariants as element
use Rattle.px_field.specs.Forms.{size}
use Rattle.px_field.specs.Values.{encode, element_of, IsOf, form_in, Value, IsValue, encoded, elements, widened, count_in, value_in}
use Rattle.px_field.specs.Values.{whole_in, IsWhole, is_bytes}
use Rattle.px_field.specs.lemmas.PieceLaws.{length_pieces, get_pieces, pieces_joined, length_joined, each_piece, bytes_take, bytes_drop}
use Rattle.px_field.specs.lemmas.ElementLaws.{size_pos, length_encode, element_of_encode, encode_element_of, IsOf_element_of}

-- ---- elements

-- there are n elements
pub length_elements : (o : Order) (f : Form) (n : ℕ) (x : List ℕ) → length (elements o f n x) ≡ n
unfolding elements
length_elements o f n x = length-map (pieces n (size f) x) (element_of o f) ∙ length_pieces n (size f) x

-- the element at i
pub get_elements : (o : Order) (f : Form) (n i at : ℕ) (x : List ℕ) → i < n → at ≡ i * size f
    → slice_get (elements o f n x) i ≡ Some (element_of o f (take (size f) (drop at x)))
unfolding elements
get_elements o f n i at x h e =
    slice_get-map (element_of o f) (pieces n (size f) x) i ∙ ap (option_map (element_of o f)) (get_pieces n (size f) i at x h e)

each_of : (o : Order) (f : Form) (xs : List (List ℕ)) → AllByRecursion AreBytes xs → AllByRecursion (IsOf f) (map (element_of o f) xs)
each_of o f [] h = tt
each_of o f (x ∷ xs) h = (IsOf_element_of o f x h.0, each_of o f xs h.1)

-- elements read from bytes are of their type
pub IsOf_elements : (o : Order) (f : Form) (n : ℕ) (x : List ℕ) → AreBytes x → AllByRecursion (IsOf f) (elements o f n x)
unfolding elements
IsOf_elements o f n x h =
    each_of o f (pieces n (size f) x) (each_piece AreBytes AreBytes n (size f) x (bytes_take (size f)) (bytes_drop (size f)) h)

all_placed : (o : Order) (f : Form) (n : ℕ) (x : List ℕ) → length x ≡ n * size f → AreBytes x
    → flat_map (encode o) (map (element_of o f) (pieces n (size f) x)) ≡ x
all_placed o f zero x l h = sym (nil_from_length x (omega arith))
all_placed o f (suc n) x l h =
    ap₂ (λ a b. a ++ b) (encode_element_of o f (take (size f) x) (length-take-le (size f) x (omega arith)) (bytes_take (size f) x h))
    (all_placed o f n (drop (size f) x) (length-drop (size f) x ∙ omega arith) (bytes_drop (size f) x h))
    ∙ take-append-drop (size f) x

-- encoding decoded elements returns their bytes
pub encode_elements : (o : Order) (f : Form) (n : ℕ) (x : List ℕ) → length x ≡ n * size f → AreBytes x
    → flat_map (encode o) (elements o f n x) ≡ x
unfolding elements
encode_elements o f n x l h = all_placed o f n x l h

each_length : (o : Order) (f : Form) (es : List Element) → AllByRecursion (IsOf f) es
    → AllByRecursion (λ e. length (encode o e) ≡ size f) es
each_length o f [] h = tt
each_length o f (e ∷ es) h = (length_encode o f e h.0, each_length o f es h.1)

each_back : (o : Order) (f : Form) (es : List Element) → AllByRecursion (IsOf f) es → map (element_of o f) (map (encode o) es) ≡ es
each_back o f [] h = refl
each_back o f (e ∷ es) h = ap₂ (λ x xs. x ∷ xs) (element_of_encode o f e h.0) (each_back o f es h.1)

-- ---- values

-- a value's encoding has as many bytes as its elements take
pub length_encoded : (o : Order) (v : Value) → IsValue v → length (encoded o v) ≡ length v.elements * size (form_in v.kind)
unfolding encoded
length_encoded o v h = length_joined (size (form_in v.kind)) (encode o) v.elements (each_length o (form_in v.kind) v.elements h)

-- the elements of a value, from its encoding
pub elements_encoded : (o : Order) (v : Value) → IsValue v → elements o (form_in v.kind) (length v.elements) (encoded o v) ≡ v.elements
unfolding elements encoded
elements_encoded o v h =
    let f = form_in v.kind in
    let es = v.elements in
    ap (map (element_of o f)) (ap (pieces (length es) (size f)) (sym (append-nil (flat_map (encode o) es)))
    ∙ pieces_joined (size f) (encode o) es [] (each_length o f es h))
    ∙ each_back o f es h

-- a whole number of elements
pub count_in_whole : (f : Form) (x : List ℕ) → length x % size f ≡ 0 → count_in f x * size f ≡ length x
count_in_whole f x h = omega (arith, div-add-mod' (length x) (size f), h)

pub count_in_times : (f : Form) (x : List ℕ) (n : ℕ) → n * size f ≡ length x → count_in f x ≡ n
count_in_times f x n h = ap (λ (m : ℕ). m / size f) (sym h) ∙ mul-div_cancel n (size_pos f)

pub count_in_encoded : (o : Order) (v : Value) → IsValue v → count_in (form_in v.kind) (encoded o v) ≡ length v.elements
count_in_encoded o v h = count_in_times (form_in v.kind) (encoded o v) (length v.elements) (sym (length_encoded o v h))

-- a value that is read of a type is of that type
pub IsValue_value_in : (o : Order) (f : Form) (x : List ℕ) → AreBytes x → IsValue (value_in o f x)
IsValue_value_in o f x h = IsOf_elements o f (count_in f x) x h

each_short : (es : List Element) → AllByRecursion (IsOf form.Short) es → AllByRecursion (IsOf form.Long) (map widened es)
each_short [] h = tt
each_short (element.Short n ∷ es) h = (let below = h.0 in omega arith, each_short es h.1)
each_short (_ ∷ es) h = absurd h.0

each_long : (es : List Element) → AllByRecursion (IsOf form.Long) es → map widened es ≡ es
each_long [] h = refl
each_long (element.Long n ∷ es) h = ap (λ l. element.Long n ∷ l) (each_long es h.1)
each_long (_ ∷ es) h = absurd h.0

-- a value that is read as whole numbers is of kind Whole
pub IsValue_whole_in : (o : Order) (f : Form) (x : List ℕ) → IsWhole f → AreBytes x → IsValue (whole_in o f x)
IsValue_whole_in o form.Short x w h =
    each_short (elements o form.Short (count_in form.Short x) x) (IsOf_elements o form.Short (count_in form.Short x) x h)
IsValue_whole_in o form.Long x w h =
    let es = elements o form.Long (count_in form.Long x) x in
    let all : AllByRecursion (IsOf form.Long) es = IsOf_elements o form.Long (count_in form.Long x) x h in
    rw (each_long es all) all
IsValue_whole_in o _ x w h = absurd w

-- LONGs widened are the LONGs
pub widened_long : (o : Order) (n : ℕ) (x : List ℕ) → AreBytes x → map widened (elements o form.Long n x) ≡ elements o form.Long n x
widened_long o n x h = each_long (elements o form.Long n x) (IsOf_elements o form.Long n x h)

-- encoding a decoded value returns its bytes
pub encoded_value_in : (o : Order) (f : Form) (x : List ℕ) → length x % size f ≡ 0 → AreBytes x → encoded o (value_in o f x) ≡ x
unfolding encoded
encoded_value_in o f x whole h = encode_elements o f (count_in f x) x (sym (count_in_whole f x whole)) h

-- decoding an encoded value returns it
pub value_in_encoded : (o : Order) (f : Form) (v : Value) → v.kind ≡ kind.Of f → IsValue v → value_in o f (encoded o v) ≡ v
value_in_encoded o f v k h =
    let g : form_in v.kind ≡ f = ap form_in k in
    let es : elements o f (count_in f (encoded o v)) (encoded o v) ≡ v.elements =
    ap (λ (t : Form). elements o t (count_in t (encoded o v)) (encoded o v)) (sym g)
    ∙ ap (λ (n : ℕ). elements o (form_in v.kind) n (encoded o v)) (count_in_encoded o v h)
    ∙ elements_encoded o v h in
    ap₂ (λ (k : Kind) (l : List Element). record { kind = k; elements = l }) (sym k) es

-- decoding whole numbers as LONG returns them
pub whole_in_encoded : (o : Order) (v : Value) → v.kind ≡ kind.Whole → IsValue v → whole_in o form.Long (encoded o v) ≡ v
whole_in_encoded o v k h =
    let g : form_in v.kind ≡ form.Long = ap form_in k in
    let es : elements o form.Long (count_in form.Long (encoded o v)) (encoded o v) ≡ v.elements =
    ap (λ (t : Form). elements o t (count_in t (encoded o v)) (encoded o v)) (sym g)
    ∙ ap (λ (n : ℕ). elements o (form_in v.kind) n (encoded o v)) (count_in_encoded o v h)
    ∙ elements_encoded o v h in
    let all : AllByRecursion (IsOf form.Long) v.elements = rw (← g) h in
    ap₂ (λ (k : Kind) (l : List Element). record { kind = k; elements = l }) (sym k) (ap (map widened) es ∙ each_long v.elements all)

one_each : (n : ℕ) (x : List ℕ) → length x ≡ n → map (λ p. element.Byte (slice_index p 0)) (pieces n 1 x) ≡ map element.Byte x
one_each zero [] l = refl
one_each zero (b ∷ x) l = absurd (omega arith)
one_each (suc n) [] l = absurd (omega arith)
one_each (suc n) (b ∷ x) l = ap (λ (es : List Element). element.Byte b ∷ es) (one_each n x (omega arith))

-- the elements of a byte type are the bytes
pub elements_bytes : (o : Order) (f : Form) (x : List ℕ) → is_bytes (kind.Of f) ≡ true → elements o f (count_in f x) x ≡ map element.Byte x
unfolding elements
elements_bytes o form.Byte x b = one_each (count_in form.Byte x) x (sym (count_in_times form.Byte x (length x) (omega arith)))
elements_bytes o form.Ascii x b = one_each (count_in form.Ascii x) x (sym (count_in_times form.Ascii x (length x) (omega arith)))
elements_bytes o form.SByte x b = one_each (count_in form.SByte x) x (sym (count_in_times form.SByte x (length x) (omega arith)))
elements_bytes o form.Undefined x b =
    one_each (count_in form.Undefined x) x (sym (count_in_times form.Undefined x (length x) (omega arith)))
elements_bytes o form.Utf8 x b = one_each (count_in form.Utf8 x) x (sym (count_in_times form.Utf8 x (length x) (omega arith)))
elements_bytes o _ x b = absurd (cc)

-- bytes as elements encode to themselves
pub encode_bytes : (o : Order) (x : List ℕ) → flat_map (encode o) (map element.Byte x) ≡ x
encode_bytes o [] = refl
encode_bytes o (b ∷ x) = ap (λ (l : List ℕ). b ∷ l) (encode_bytes o x)

-- the bytes of the first elements, and of one more
pub encode_take : (o : Order) (es : List Element) (i j : ℕ) (e : Element) → slice_get es i ≡ Some e → j ≡ suc i
    → flat_map (encode o) (take j es) ≡ flat_map (encode o) (take i es) ++ encode o e
encode_take o [] i j e h s = absurd (cc)
encode_take o (x ∷ es) zero j e h s =
    let same : x ≡ e = cc in
    let one : j ≡ 1 = omega arith in
    rw (one, same) (append-nil (encode o e))
encode_take o (x ∷ es) (suc i) j e h s =
    rw s (ap (λ (l : List ℕ). encode o x ++ l) (encode_take o es i (suc i) e h refl)
    ∙ sym (append_assoc (encode o x) (flat_map (encode o) (take i es)) (encode o e)))

-- encoding whole numbers that were decoded from LONGs returns their bytes
pub encoded_whole_in : (o : Order) (x : List ℕ) → length x % 4 ≡ 0 → AreBytes x → encoded o (whole_in o form.Long x) ≡ x
unfolding encoded
encoded_whole_in o x whole h =
    ap (λ (es : List Element). flat_map (encode o) es) (widened_long o (count_in form.Long x) x h)
    ∙ encode_elements o form.Long (count_in form.Long x) x (sym (count_in_whole form.Long x whole)) h

-- the value of n elements of a type
pub value_in_elements : (o : Order) (f : Form) (n : ℕ) (x : List ℕ) → n * size f ≡ length x
    → value_in o f x ≡ record { kind = kind.Of f; elements = elements o f n x }
value_in_elements o f n x h = ap (λ (m : ℕ). record { kind = kind.Of f; elements = elements o f m x }) (count_in_times f x n h)

pub whole_in_elements : (o : Order) (f : Form) (n : ℕ) (x : List ℕ) → n * size f ≡ length x
    → whole_in o f x ≡ record { kind = kind.Whole; elements = map widened (elements o f n x) }
whole_in_elements o f n x h =
    ap (λ (m : ℕ). record { kind = kind.Whole; elements = map widened (elements o f m x) }) (count_in_times f x n h)

-- the bytes of n elements are a whole number of elements
pub whole_times : (f : Form) (n : ℕ) (x : List ℕ) → n * size f ≡ length x → length x % size f ≡ 0
whole_times f n x h = ap (λ (m : ℕ). m % size f) (sym h) ∙ mul-mod_left n (size f)

-- four bytes for each whole number are at most twice the bytes that were read
pub count_in_bound : (f : Form) (x : List ℕ) → IsWhole f → 4 * count_in f x ≤ 2 * length x
count_in_bound form.Short x h = omega arith
count_in_bound form.Long x h = omega arith
count_in_bound _ x h = absurd h
