-- The laws of encoding and decoding numbers.
use Rattle.std.proofs.Common.{◌≡◌, ◌<◌, ◌≤◌, ◌+◌, ◌*◌, ◌^◌, ◌/◌, ◌%◌, ℕ, zero, suc, List, [], ◌∷◌, length, take, refl, sym, ap, ◌∙◌}
use Rattle.std.proofs.Common.{append-nil, arith}
use Rattle.std.proofs.lemmas.Nat.{div-mul-add, mod-mul-add}
use Rattle.std.specs.Int.{bytes_high_first, bytes_low_first}
use Rattle.byteorder.specs.Endian.{big_from, little_from}
use Rattle.byteorder.specs.Numbers.{big_number-reads_back, little_number-reads_back, length-bytes_high_first, length-bytes_low_first}
use Rattle.byteorder.specs.Numbers.{big_from-cons, little_from-cons, big_from-take, little_from-take, big_from-lt, little_from-lt}
use Rattle.px_bytes.specs.declared.numbers.Order.{Order}
use Rattle.px_bytes.specs.declared.numbers.Order.TheVariants.{Least, Most}
use Rattle.px_bytes.specs.Numbers.{number, spelling, AreBytes}
use Rattle.px_bytes.specs.lemmas.ByteLaws.{bytes_spelling}

-- decoding an encoded number returns it
pub number_spelling : (order : Order) (width n : ℕ) → n < 256 ^ width → number order width (spelling order width n) ≡ n
number_spelling Least width n fits =
    ap (little_from 0 width) (sym (append-nil (bytes_low_first 0 width n))) ∙ little_number-reads_back width n [] fits
number_spelling Most width n fits =
    ap (big_from 0 width) (sym (append-nil (bytes_high_first width n))) ∙ big_number-reads_back width n [] fits

-- an encoding has its fixed length
pub length_spelling : (order : Order) (width n : ℕ) → length (spelling order width n) ≡ width
length_spelling Least width n = length-bytes_low_first 0 width n
length_spelling Most width n = length-bytes_high_first width n

-- byte lists of one length with the same number are equal
one_most : (n : ℕ) (xs ys : List ℕ) → length xs ≡ n → length ys ≡ n → AreBytes xs → AreBytes ys → big_from 0 n xs ≡ big_from 0 n ys
    → xs ≡ ys
one_most zero [] [] hx hy bx by_ e = refl
one_most zero [] (y ∷ ys) hx hy bx by_ e = absurd (omega arith)
one_most zero (x ∷ xs) ys hx hy bx by_ e = absurd (omega arith)
one_most (suc n) [] ys hx hy bx by_ e = absurd (omega arith)
one_most (suc n) (x ∷ xs) [] hx hy bx by_ e = absurd (omega arith)
one_most (suc n) (x ∷ xs) (y ∷ ys) hx hy bx by_ e =
    let fx : big_from 0 n xs < 256 ^ n = big_from-lt 0 n xs (λ i. bx (suc i)) in
    let fy : big_from 0 n ys < 256 ^ n = big_from-lt 0 n ys (λ i. by_ (suc i)) in
    let split : x * 256 ^ n + big_from 0 n xs ≡ y * 256 ^ n + big_from 0 n ys =
    ap (λ (r : ℕ). x * 256 ^ n + r) (sym (big_from-cons 0 n x xs)) ∙ e ∙ ap (λ (r : ℕ). y * 256 ^ n + r) (big_from-cons 0 n y ys) in
    let head : x ≡ y = sym (div-mul-add x (256 ^ n) _ fx) ∙ ap (λ (v : ℕ). v / 256 ^ n) split ∙ div-mul-add y (256 ^ n) _ fy in
    let rest : big_from 0 n xs ≡ big_from 0 n ys =
    sym (mod-mul-add x (256 ^ n) _ fx) ∙ ap (λ (v : ℕ). v % 256 ^ n) split ∙ mod-mul-add y (256 ^ n) _ fy in
    let tail : xs ≡ ys = one_most n xs ys (omega arith) (omega arith) (λ i. bx (suc i)) (λ i. by_ (suc i)) rest in
    cc

one_least : (n : ℕ) (xs ys : List ℕ) → length xs ≡ n → length ys ≡ n → AreBytes xs → AreBytes ys → little_from 0 n xs ≡ little_from 0 n ys
    → xs ≡ ys
one_least zero [] [] hx hy bx by_ e = refl
one_least zero [] (y ∷ ys) hx hy bx by_ e = absurd (omega arith)
one_least zero (x ∷ xs) ys hx hy bx by_ e = absurd (omega arith)
one_least (suc n) [] ys hx hy bx by_ e = absurd (omega arith)
one_least (suc n) (x ∷ xs) [] hx hy bx by_ e = absurd (omega arith)
one_least (suc n) (x ∷ xs) (y ∷ ys) hx hy bx by_ e =
    let lx : x < 256 = bx 0 in
    let ly : y < 256 = by_ 0 in
    let split : x + 256 * little_from 0 n xs ≡ y + 256 * little_from 0 n ys =
    ap (λ (r : ℕ). x + 256 * r) (sym (little_from-cons 0 n x xs)) ∙ e ∙ ap (λ (r : ℕ). y + 256 * r) (little_from-cons 0 n y ys) in
    let head : x ≡ y = omega arith in
    let rest : little_from 0 n xs ≡ little_from 0 n ys = omega arith in
    let tail : xs ≡ ys = one_least n xs ys (omega arith) (omega arith) (λ i. bx (suc i)) (λ i. by_ (suc i)) rest in
    cc

-- byte lists of one length with the same number are equal
pub one_spelling : (order : Order) (n : ℕ) (xs ys : List ℕ) → length xs ≡ n → length ys ≡ n → AreBytes xs → AreBytes ys
    → number order n xs ≡ number order n ys → xs ≡ ys
one_spelling Least n xs ys hx hy bx by_ e = one_least n xs ys hx hy bx by_ e
one_spelling Most n xs ys hx hy bx by_ e = one_most n xs ys hx hy bx by_ e

-- a number of n bytes is less than 256 ^ n
pub number_lt : (order : Order) (n : ℕ) (bytes : List ℕ) → AreBytes bytes → number order n bytes < 256 ^ n
number_lt Least n bytes h = little_from-lt 0 n bytes h
number_lt Most n bytes h = big_from-lt 0 n bytes h

-- encoding a decoded number returns its bytes
pub spelling_number : (order : Order) (width : ℕ) (bytes : List ℕ) → length bytes ≡ width → AreBytes bytes
    → spelling order width (number order width bytes) ≡ bytes
spelling_number order width bytes len h =
    one_spelling order width (spelling order width (number order width bytes)) bytes (length_spelling order width _) len
    (bytes_spelling order width _) h
    (number_spelling order width _ (number_lt order width bytes h))

-- a number depends on no byte after its width
pub number_take : (order : Order) (n m : ℕ) (bytes : List ℕ) → n ≤ m → number order n (take m bytes) ≡ number order n bytes
number_take Least n m bytes h = little_from-take 0 n m bytes (omega arith)
number_take Most n m bytes h = big_from-take 0 n m bytes (omega arith)
