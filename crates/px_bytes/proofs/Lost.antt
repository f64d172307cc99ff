-- The bytes left of a reader that has returned some.
use Rattle.std.proofs.Common.{◌≤◌, ◌+◌, ℕ, List, length, Option, Some, None, sym, ap, ◌∙◌, arith}
use Rattle.std.proofs.lemmas.List.{length-append}
use Rattle.std.proofs.Math.Seq.{drop-append-add}
use Rattle.std.specs.Io.KnownBytes.{Consumes}
use Rattle.px_bytes.specs.Reading.{ConsumesAtMost, readable}

-- the bytes returned, and those that a failed call lost after them
pub lost_after : (a b c : Option (List ℕ)) (bs : List ℕ) (space most : ℕ) → Consumes a b bs → ConsumesAtMost b c space
    → length bs + space ≤ most → ConsumesAtMost a c most
lost_after None b c bs space most p q e = tt
lost_after (Some xs) None c bs space most p q e = absurd p
lost_after (Some xs) (Some ys) c bs space most p (n, small, left) e =
    (length bs + n, omega arith, left ∙ ap Some (sym (rw p (drop-append-add bs ys n))))

-- no more bytes are returned than a reader has
pub returned_readable : (a b : Option (List ℕ)) (bs : List ℕ) (most : ℕ) → Consumes a b bs → length bs ≤ most → length bs ≤ readable a most
returned_readable None b bs most p l = l
returned_readable (Some xs) None bs most p l = absurd p
returned_readable (Some xs) (Some ys) bs most p l =
    let whole = ap (λ (zs : List ℕ). length zs) p ∙ length-append bs ys in
    omega arith
