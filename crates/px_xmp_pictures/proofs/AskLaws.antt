-- What a comparison of two pictures without XMP requests.
use Rattle.std.proofs.Common.{ℕ, List, arith}
use Rattle.px_bytes.specs.Allocations.{MemoryCounts}
use Rattle.px_pictures.specs.Asking.{AsksForBoth}
use Rattle.px_xmp_pictures.specs.Asking.{AsksForNoXmp, AsksWithoutXmp}

pub asks_for_blocks : (f g : List ℕ) (a b : MemoryCounts) → AsksForBoth f g a b → AsksWithoutXmp f g a b
asks_for_blocks f g a b h none nothing most other x y = let m = h most other x y in omega (arith, m)

pub asks_for_all : (f g : List ℕ) (a b c : MemoryCounts) → AsksForBoth f g a b → AsksForNoXmp f g b c → AsksWithoutXmp f g a c
asks_for_all f g a b c h k none nothing most other x y =
    let m = h most other x y in
    let n = k none nothing in
    omega (arith, m, n)
