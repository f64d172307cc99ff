-- Parts written one after another.
use Rattle.std.proofs.Common.{◌≡◌, ◌+◌, ◌++◌, ℕ, List, length, take, Option, arith, length-append}
use Rattle.std.proofs.KnownBytes.{Appends-trans, Appends-kept}
use Rattle.std.proofs.Math.Seq.{take-append-add, take-length}
use Rattle.std.proofs.lemmas.List.{take-append-le}
use Rattle.std.specs.Io.KnownBytes.{Appends, Keeps}
use Rattle.px_bytes.specs.Devices.{AppendsPrefix}

-- the first part, and all of the second
pub appends_both : (a b c : Option (List ℕ)) (xs ys : List ℕ) → Appends a b xs → Appends b c ys → Appends a c (xs ++ ys)
appends_both a b c xs ys p q = Appends-trans a b c xs ys p q

-- a part, and then a flush or a failed call that took nothing
pub appends_kept : (a b c : Option (List ℕ)) (xs : List ℕ) → Appends a b xs → Keeps b c → Appends a c xs
appends_kept a b c xs p q = Appends-kept a b c xs p q

-- all of it is a prefix of it
pub prefix_all : (a b : Option (List ℕ)) (xs : List ℕ) → Appends a b xs → AppendsPrefix a b xs
prefix_all a b xs p = (length xs, omega arith, rw take-length p)

-- a prefix of the first part
pub prefix_first : (a b : Option (List ℕ)) (xs ys : List ℕ) → AppendsPrefix a b xs → AppendsPrefix a b (xs ++ ys)
prefix_first a b xs ys h =
    let same : take h.0 (xs ++ ys) ≡ take h.0 xs = take-append-le h.0 xs ys h.1 in
    (h.0, omega (arith, h.1, length-append xs ys), rw same h.2)

-- the first part, and a prefix of the second
pub prefix_second : (a b c : Option (List ℕ)) (xs ys : List ℕ) → Appends a b xs → AppendsPrefix b c ys → AppendsPrefix a c (xs ++ ys)
prefix_second a b c xs ys p h =
    let same : take (length xs + h.0) (xs ++ ys) ≡ xs ++ take h.0 ys = take-append-add xs ys h.0 in
    (length xs + h.0, omega (arith, h.1, length-append xs ys), rw same (appends_both a b c xs (take h.0 ys) p h.2))
