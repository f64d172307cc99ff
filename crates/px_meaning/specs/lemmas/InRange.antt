-- Decoded values are in range, and bytes that are read as bytes encode to themselves.
use Rattle.std.proofs.Common.{◌≡◌, ℕ, zero, suc, ◌^◌, ◌<◌, List, [], ◌∷◌, flat_map, length, drop, refl, ap, arith}
use Rattle.px_bytes.specs.declared.Order.{Order}
use Rattle.px_bytes.specs.declared.Order.TheVariants.{Least}
use Rattle.px_bytes.specs.Numbers.{AreBytes, number}
use Rattle.px_bytes.specs.lemmas.NumberLaws.{number_lt}
use Rattle.px_bytes.specs.Parts.{part}
use Rattle.px_field.specs.declared.Form.TheVariants.{Byte, Undefined}
use Rattle.px_field.specs.Values.{encode, elements}
use Rattle.px_field.specs.lemmas.PieceLaws.{bytes_take, bytes_drop}

pub bytes_part : (x : List ℕ) (a n : ℕ) → AreBytes x → AreBytes (part x a n)
bytes_part x a n h = bytes_take n (drop a x) (bytes_drop a x h)

pub below_16 : (o : Order) (x : List ℕ) → AreBytes x → number o 2 x < 2 ^ 16
below_16 o x h = number_lt o 2 x h

-- bytes that are read one by one
pub bytes_back : (o : Order) (n : ℕ) (x : List ℕ) → length x ≡ n → flat_map (encode Least) (elements o Byte n x) ≡ x
unfolding elements
bytes_back o zero [] e = refl
bytes_back o zero (y ∷ x) e = absurd (omega arith)
bytes_back o (suc n) [] e = absurd (omega arith)
bytes_back o (suc n) (y ∷ x) e = ap (λ z. y ∷ z) (bytes_back o n x (omega arith))

pub undefined_back : (o : Order) (n : ℕ) (x : List ℕ) → length x ≡ n → flat_map (encode Least) (elements o Undefined n x) ≡ x
unfolding elements
undefined_back o zero [] e = refl
undefined_back o zero (y ∷ x) e = absurd (omega arith)
undefined_back o (suc n) [] e = absurd (omega arith)
undefined_back o (suc n) (y ∷ x) e = ap (λ z. y ∷ z) (undefined_back o n x (omega arith))
