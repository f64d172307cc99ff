-- Elements converted one after another.
use Rattle.std.proofs.Common.{◌≡◌, ℕ, zero, suc, ◌+◌, ◌-◌, ◌*◌, ◌/◌, ◌%◌, ◌<◌, ◌≤◌, Bool, true, false, List, [], ◌∷◌, ◌++◌, map, length}
use Rattle.std.proofs.Common.{flat_map, take, drop, slice_get, replicate, unwrap_or, refl, sym, ◌∙◌, ap, ap₂, arith, subst, append_assoc}
use Rattle.std.proofs.Common.{append-nil, length-append, length-drop}
use Rattle.std.specs.Int.{w16, w32}
use Rattle.std.proofs.lemmas.Grind.{common_steps}
use Rattle.std.proofs.lemmas.Int.{of_z-to_z}
use Rattle.std.proofs.lemmas.List.{length-take-le, take_all}
use Rattle.std.proofs.lemmas.Nat.{le-div}
use Rattle.std.proofs.Math.Nat.{div-mul-le_self, mul-le-mul_right, mul-div_cancel}
use Rattle.std.proofs.Math.Seq.{drop-drop}
use Rattle.std.proofs.lemmas.Slice.{take-put_mid}
use borrow.Rule.Slice.PartMut.{put_mid}
use Rattle.px_bytes.specs.declared.Order.{Order}
use Rattle.px_bytes.specs.Numbers.{number, spelling, AreBytes}
use Rattle.px_bytes.specs.lemmas.NumberLaws.{number_lt, length_spelling}
use Rattle.px_bytes.specs.Parts.{pieces}
use Rattle.px_field.specs.declared.forms.Form.{Form}
use Rattle.px_field.specs.declared.forms.Form.TheVariants as form
use Rattle.px_field.specs.declared.turning.Width.{Width}
use Rattle.px_field.specs.declared.turning.Width.TheVariants as width
use Rattle.px_field.specs.Forms.{size}
use Rattle.px_field.specs.Values.{Value, encode, encoded, element_of, widened, IsWhole, elements, count_in}
use Rattle.px_field.specs.calls.Views.{shown}
use Rattle.px_field.specs.calls.Turning.{width_of, read_by, turned}
use Rattle.px_field.specs.lemmas.PieceLaws.{bytes_take, bytes_drop}
use Rattle.px_field.specs.lemmas.ElementLaws.{encode_element_of, size_pos}
use Rattle.px_field.specs.lemmas.ValueLaws.{length_encoded}
use Rattle.px_field.proofs.ViewLemmas.{length_shown, size_shown, IsValue_shown, encoded_one}

-- ---- pieces

-- the pieces from one on
pub pieces_first : {A : Type 0} (n c k : ℕ) (x : List A) → n ≤ c → take n (pieces c k x) ≡ pieces n k x
pieces_first zero c k x h = refl
pieces_first (suc n) zero k x h = absurd (omega arith)
pieces_first (suc n) (suc c) k x h = ap (λ ps. take k x ∷ ps) (pieces_first n c k (drop k x) (omega arith))

pub pieces_part : {A : Type 0} (n i c k at : ℕ) (x : List A) → at ≡ i * k → i + n ≤ c
    → take n (drop i (pieces c k x)) ≡ pieces n k (drop at x)
pieces_part n zero c k at x e h =
    let none : at ≡ 0 = omega (arith, e) in
    rw none (pieces_first n c k x (omega arith))
pieces_part n (suc i) zero k at x e h = absurd (omega arith)
pieces_part {A} n (suc i) (suc c) k at x e h =
    let moved : drop (i * k) (drop k x) ≡ drop at x = grind (arith, common_steps, drop-drop {A = A}, e) in
    pieces_part n i c k (i * k) (drop k x) refl (omega arith) ∙ ap (pieces n k) moved

-- one piece more
flat_more : {A B : Type 0} (f : List A → List B) (i k at : ℕ) (x : List A) → at ≡ i * k
    → flat_map f (pieces (suc i) k x) ≡ flat_map f (pieces i k x) ++ f (take k (drop at x))
flat_more f zero k at x e =
    let none : at ≡ 0 = omega (arith, e) in
    rw none (append-nil (f (take k x)))
flat_more {A} f (suc i) k at x e =
    let moved : drop (i * k) (drop k x) ≡ drop at x = grind (arith, common_steps, drop-drop {A = A}, e) in
    ap (λ l. f (take k x) ++ l) (flat_more f i k (i * k) (drop k x) refl
    ∙ ap (λ y. flat_map f (pieces i k (drop k x)) ++ f (take k y)) moved)
    ∙ sym (append_assoc (f (take k x)) (flat_map f (pieces i k (drop k x))) (f (take k (drop at x))))

-- ---- loops over pieces

-- one piece more is written
pub turn_more : (f : List ℕ → List ℕ) (k i at a m n j : ℕ) (from to ys : List ℕ) → at ≡ i * k → ys ≡ f (take k (drop at from))
    → take a to ≡ flat_map f (pieces i k from)
    → n ≡ a + length ys → a ≤ length to → j ≡ suc i → take n (put_mid a m to ys) ≡ flat_map f (pieces j k from)
turn_more f k i at a m n j from to ys e y h p l s =
    take-put_mid a m to ys n p l ∙ ap₂ (λ u v. u ++ v) h y ∙ sym (flat_more f i k at from e)
    ∙ ap (λ t. flat_map f (pieces t k from)) (sym s)

pub length_pair : (o : Order) (n d : ℕ) → length (spelling o 4 n ++ spelling o 4 d) ≡ 8
length_pair o n d = length-append (spelling o 4 n) (spelling o 4 d) ∙ ap₂ (λ x y. x + y) (length_spelling o 4 n) (length_spelling o 4 d)

-- bytes are their own pieces
pub turned_ones : (r o : Order) (n : ℕ) (x : List ℕ) → n ≤ length x → flat_map (turned width.One r o) (pieces n 1 x) ≡ take n x
turned_ones r o zero x h = refl
turned_ones r o (suc n) [] h = absurd (omega arith)
turned_ones r o (suc n) (b ∷ x) h = ap (λ l. b ∷ l) (turned_ones r o n x (omega arith))

-- ---- elements by their bytes

turned_piece : (r o : Order) (f : Form) (p : List ℕ) → length p ≡ size f → AreBytes p
    → encode o (element_of r f p) ≡ turned (width_of false f) r o p
turned_piece r o form.Short p l h = refl
turned_piece r o form.Long p l h = refl
turned_piece r o form.Float p l h = refl
turned_piece r o form.Rational p l h = refl
turned_piece r o form.Double p l h = refl
turned_piece r o form.SShort p l h = ap (spelling o 2) (of_z-to_z w16 (number r 2 p) (let b = number_lt r 2 p h in b))
turned_piece r o form.SLong p l h = ap (spelling o 4) (of_z-to_z w32 (number r 4 p) (let b = number_lt r 4 p h in b))
turned_piece r o form.SRational p l h =
    ap₂ (λ a b. spelling o 4 a ++ spelling o 4 b)
    (of_z-to_z w32 (number r 4 (take 4 p)) (let b = number_lt r 4 (take 4 p) (bytes_take 4 p h) in b))
    (of_z-to_z w32 (number r 4 (drop 4 p)) (let b = number_lt r 4 (drop 4 p) (bytes_drop 4 p h) in b))
turned_piece r o form.Byte p l h = encode_element_of r form.Byte p l h
turned_piece r o form.Ascii p l h = encode_element_of r form.Ascii p l h
turned_piece r o form.SByte p l h = encode_element_of r form.SByte p l h
turned_piece r o form.Undefined p l h = encode_element_of r form.Undefined p l h
turned_piece r o form.Utf8 p l h = encode_element_of r form.Utf8 p l h

wide_piece : (r o : Order) (f : Form) (p : List ℕ) → IsWhole f → encode o (widened (element_of r f p)) ≡ turned (width_of true f) r o p
wide_piece r o form.Short p h = refl
wide_piece r o form.Long p h = refl
wide_piece r o _ p h = absurd h

turned_all : (r o : Order) (f : Form) (n : ℕ) (x : List ℕ) → n * size f ≤ length x → AreBytes x
    → flat_map (encode o) (map (element_of r f) (pieces n (size f) x)) ≡ flat_map (turned (width_of false f) r o) (pieces n (size f) x)
turned_all r o f zero x l h = refl
turned_all r o f (suc n) x l h =
    ap₂ (λ u v. u ++ v) (turned_piece r o f (take (size f) x) (length-take-le (size f) x (omega arith)) (bytes_take (size f) x h))
    (turned_all r o f n (drop (size f) x) (let d = length-drop (size f) x in omega arith) (bytes_drop (size f) x h))

wide_all : (r o : Order) (f : Form) (n : ℕ) (x : List ℕ) → IsWhole f
    → flat_map (encode o) (map widened (map (element_of r f) (pieces n (size f) x))) ≡ flat_map (turned (width_of true f) r o)
    (pieces n (size f) x)
wide_all r o f zero x h = refl
wide_all r o f (suc n) x h = ap₂ (λ u v. u ++ v) (wide_piece r o f (take (size f) x) h) (wide_all r o f n (drop (size f) x) h)

part_map : {A B : Type 0} (g : A → B) (n i : ℕ) (xs : List A) → take n (drop i (map g xs)) ≡ map g (take n (drop i xs))
part_map g n i xs = ap (take n) (from g i xs) ∙ front g n (drop i xs)
  where
    from : {A B : Type 0} (g : A → B) (i : ℕ) (xs : List A) → drop i (map g xs) ≡ map g (drop i xs)
    from g zero xs = refl
    from g (suc i) [] = refl
    from g (suc i) (x ∷ xs) = from g i xs

    front : {A B : Type 0} (g : A → B) (n : ℕ) (xs : List A) → take n (map g xs) ≡ map g (take n xs)
    front g zero xs = refl
    front g (suc n) [] = refl
    front g (suc n) (x ∷ xs) = ap (λ l. g x ∷ l) (front g n xs)

-- n elements of a value, from index i
pub part_shown : (w : Bool) (r o : Order) (f : Form) (raw : List ℕ) (n i at : ℕ) → (w ≡ true → IsWhole f) → AreBytes raw → at ≡ i * size f
    → i + n ≤ count_in f raw → n * size f ≤ length (drop at raw)
    → flat_map (encode o) (take n (drop i (shown w r f raw).elements)) ≡ flat_map (turned (width_of w f) r o)
    (pieces n (size f) (drop at raw))
unfolding elements
part_shown true r o f raw n i at whole are e inside fits =
    ap (flat_map (encode o)) (part_map widened n i (map (element_of r f) (pieces (count_in f raw) (size f) raw))
    ∙ ap (map widened) (part_map (element_of r f) n i (pieces (count_in f raw) (size f) raw)
    ∙ ap (map (element_of r f)) (pieces_part n i (count_in f raw) (size f) at raw e inside)))
    ∙ wide_all r o f n (drop at raw) (whole refl)
part_shown false r o f raw n i at whole are e inside fits =
    ap (flat_map (encode o)) (part_map (element_of r f) n i (pieces (count_in f raw) (size f) raw)
    ∙ ap (map (element_of r f)) (pieces_part n i (count_in f raw) (size f) at raw e inside))
    ∙ turned_all r o f n (drop at raw) fits (bytes_drop at raw are)

-- widths are sizes
pub read_size : (w : Bool) (f : Form) → (w ≡ true → IsWhole f) → read_by (width_of w f) ≡ size f
read_size true form.Short h = refl
read_size true form.Long h = refl
read_size true _ h = absurd (h refl)
read_size false form.Byte h = refl
read_size false form.Ascii h = refl
read_size false form.Short h = refl
read_size false form.Long h = refl
read_size false form.Rational h = refl
read_size false form.SByte h = refl
read_size false form.Undefined h = refl
read_size false form.SShort h = refl
read_size false form.SLong h = refl
read_size false form.SRational h = refl
read_size false form.Float h = refl
read_size false form.Double h = refl
read_size false form.Utf8 h = refl

-- ---- one element

-- its bytes are turned round
pub encoded_element : (w : Bool) (r o : Order) (f : Form) (raw : List ℕ) → (w ≡ true → IsWhole f) → AreBytes raw → length raw ≡ size f
    → encoded o (shown w r f raw) ≡ turned (width_of w f) r o raw
unfolding encoded
encoded_element w r o f raw whole are e =
    let one : length raw ≡ 1 * size f = omega (arith, e) in
    let count : count_in f raw ≡ 1 = ap (λ (n : ℕ). n / size f) one ∙ mul-div_cancel 1 (size_pos f) in
    ap (flat_map (encode o)) (sym (take_all 1 (shown w r f raw).elements (omega (arith, length_shown w r f raw, count))))
    ∙ part_shown w r o f raw 1 0 0 whole are (omega arith) (omega (arith, count)) (omega (arith, e))
    ∙ append-nil (turned (width_of w f) r o (take (size f) raw))
    ∙ ap (turned (width_of w f) r o) (take_all (size f) raw (omega (arith, e)))

-- only numbers of one part are widened
pub pair_plain : (w : Bool) (f : Form) → (w ≡ true → IsWhole f) → width_of false f ≡ width.Pair → w ≡ false
pair_plain false f h e = refl
pair_plain true form.Short h e = absurd (cc)
pair_plain true form.Long h e = absurd (cc)
pair_plain true _ h e = absurd (h refl)

pub pair_size : (f : Form) → width_of false f ≡ width.Pair → size f ≡ 8
pair_size f e = sym (read_size false f (λ h. absurd (cc))) ∙ ap read_by e

-- a value of two numbers that takes eight bytes was read from eight
pub pair_raw : (w : Bool) (r o : Order) (f : Form) (raw : List ℕ) → (w ≡ true → IsWhole f) → length raw % size f ≡ 0 → AreBytes raw
    → width_of false f ≡ width.Pair → length (encoded o (shown w r f raw)) ≡ 8 → length raw ≡ 8
pair_raw w r o f raw whole rest are e long =
    sym (size_shown w r f raw rest (pair_plain w f whole e)) ∙ sym (length_encoded o (shown w r f raw) (IsValue_shown w r f raw whole are))
    ∙ long

pub pair_encoded : (w : Bool) (r o : Order) (f : Form) (raw : List ℕ) → (w ≡ true → IsWhole f) → AreBytes raw
    → width_of false f ≡ width.Pair → length raw ≡ 8 → encoded o (shown w r f raw) ≡ turned width.Pair r o raw
pair_encoded w r o f raw whole are e long =
    encoded_element w r o f raw whole are (long ∙ sym (pair_size f e))
    ∙ ap (λ (b : Bool). turned (width_of b f) r o raw) (pair_plain w f whole e)
    ∙ ap (λ (k : Width). turned k r o raw) e

-- the bytes of a value, with zeros up to four
abbrev pub Padded : Order → Value → List ℕ
Padded o v = encoded o v ++ replicate (4 - length (encoded o v)) 0

padded_at : (o : Order) (v : Value) (bytes : List ℕ) (n : ℕ) → encoded o v ≡ bytes → length bytes ≡ n
    → bytes ++ replicate (4 - n) 0 ≡ Padded o v
padded_at o v bytes n e l = rw e (ap (λ (m : ℕ). bytes ++ replicate (4 - m) 0) (sym l))

pub short_padded : (w : Bool) (r o : Order) (f : Form) (raw : List ℕ) → f ≡ form.Short → w ≡ false → length raw ≡ 2 → AreBytes raw
    → turned width.Two r o raw ++ 0 ∷ 0 ∷ [] ≡ Padded o (shown w r f raw)
short_padded false r o form.Short raw s plain long are =
    padded_at o (shown false r form.Short raw) (turned width.Two r o raw) 2
    (encoded_element false r o form.Short raw (λ h. absurd (cc)) are long) (length_spelling o 2 _)
short_padded true r o _ raw s plain long are = absurd (cc)
short_padded false r o _ raw s plain long are = absurd (cc)

pub long_padded : (w : Bool) (r o : Order) (f : Form) (raw : List ℕ) → f ≡ form.Long → length raw ≡ 4 → (w ≡ true → IsWhole f)
    → AreBytes raw → turned width.Four r o raw ≡ Padded o (shown w r f raw)
long_padded w r o f raw is long whole are = rw is (at w (subst (λ (g : Form). w ≡ true → IsWhole g) is whole))
  where
    at : (b : Bool) → (b ≡ true → IsWhole form.Long) → turned width.Four r o raw ≡ Padded o (shown b r form.Long raw)
    at true h =
        sym (append-nil (turned width.Four r o raw))
        ∙ padded_at o (shown true r form.Long raw) (turned width.Four r o raw) 4 (encoded_element true r o form.Long raw h are long)
        (length_spelling o 4 _)
    at false h =
        sym (append-nil (turned width.Four r o raw))
        ∙ padded_at o (shown false r form.Long raw) (turned width.Four r o raw) 4 (encoded_element false r o form.Long raw h are long)
        (length_spelling o 4 _)

-- at most four bytes, then zeros
pub four_bytes : (x : List ℕ) → length x ≤ 4
    → unwrap_or (slice_get x 0) 0 ∷ unwrap_or (slice_get x 1) 0 ∷ unwrap_or (slice_get x 2) 0 ∷ unwrap_or (slice_get x 3) 0 ∷ []
    ≡ x ++ replicate (4 - length x) 0
four_bytes [] h = refl
four_bytes (a ∷ []) h = refl
four_bytes (a ∷ b ∷ []) h = refl
four_bytes (a ∷ b ∷ c ∷ []) h = refl
four_bytes (a ∷ b ∷ c ∷ d ∷ []) h = refl
four_bytes (a ∷ b ∷ c ∷ d ∷ e ∷ x) h = absurd (omega arith)

pub bytes_padded : (w : Bool) (r o : Order) (f : Form) (raw : List ℕ) → (w ≡ true → IsWhole f) → size f ≡ 1
    → raw ++ replicate (4 - length raw) 0 ≡ Padded o (shown w r f raw)
bytes_padded w r o f raw whole one = padded_at o (shown w r f raw) raw (length raw) (encoded_one w r o f raw whole one) refl

-- ---- how many elements fit

pub space_for : (n width space : ℕ) → n ≤ space / width → n * width ≤ space
space_for n width space h = let whole = div-mul-le_self space width in let below = mul-le-mul_right width h in omega arith

pub space_of : (n width space : ℕ) → 0 < width → n * width ≤ space → n ≤ space / width
space_of n width space p h = le-div n space width p h

pub parts_fit : (i n len : ℕ) (f : Form) → i + n ≤ len / size f → i * size f + n * size f ≤ len
parts_fit i n len f h =
    let fits = space_for (i + n) (size f) len h in
    let split : (i + n) * size f ≡ i * size f + n * size f = omega arith in
    omega arith
