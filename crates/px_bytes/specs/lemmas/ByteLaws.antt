-- Lists of bytes, and encodings as such lists.
use Rattle.std.proofs.Common.{◌<◌, ◌^◌, ◌/◌, ℕ, zero, suc, List, [], ◌∷◌, ◌++◌, arith}
use Rattle.std.proofs.Math.Nat.{mod-lt}
use Rattle.std.specs.Int.{byte_at, bytes_high_first, bytes_low_first}
use Rattle.px_bytes.specs.declared.numbers.Order.{Order}
use Rattle.px_bytes.specs.declared.numbers.Order.TheVariants.{Least, Most}
use Rattle.px_bytes.specs.Numbers.{spelling, AreBytes}

pub bytes_none : AreBytes []
bytes_none i = omega arith

pub bytes_cons : (x : ℕ) (xs : List ℕ) → x < 256 → AreBytes xs → AreBytes (x ∷ xs)
bytes_cons x xs h k zero = h
bytes_cons x xs h k (suc i) = k i

pub bytes_append : (xs ys : List ℕ) → AreBytes xs → AreBytes ys → AreBytes (xs ++ ys)
bytes_append [] ys h k i = k i
bytes_append (x ∷ xs) ys h k zero = h 0
bytes_append (x ∷ xs) ys h k (suc i) = bytes_append xs ys (λ j. h (suc j)) k i

pub bytes_left : (xs ys : List ℕ) → AreBytes (xs ++ ys) → AreBytes xs
bytes_left [] ys h i = omega arith
bytes_left (x ∷ xs) ys h zero = h 0
bytes_left (x ∷ xs) ys h (suc i) = bytes_left xs ys (λ j. h (suc j)) i

pub bytes_right : (xs ys : List ℕ) → AreBytes (xs ++ ys) → AreBytes ys
bytes_right [] ys h = h
bytes_right (x ∷ xs) ys h = bytes_right xs ys (λ j. h (suc j))

-- a digit is a byte
byte_at_lt : (k n : ℕ) → byte_at k n < 256
byte_at_lt zero n = mod-lt n (omega arith)
byte_at_lt (suc k) n = mod-lt (n / 256 ^ suc k) (omega arith)

high_bytes : (width n : ℕ) → AreBytes (bytes_high_first width n)
high_bytes zero n i = omega arith
high_bytes (suc width) n zero = byte_at_lt width n
high_bytes (suc width) n (suc i) = high_bytes width n i

low_bytes : (width j n : ℕ) → AreBytes (bytes_low_first j width n)
low_bytes zero j n i = omega arith
low_bytes (suc width) j n zero = byte_at_lt j n
low_bytes (suc width) j n (suc i) = low_bytes width (suc j) n i

-- an encoding is made of bytes
pub bytes_spelling : (order : Order) (width n : ℕ) → AreBytes (spelling order width n)
bytes_spelling Least width n = low_bytes width 0 n
bytes_spelling Most width n = high_bytes width n
