-- Parts of a block, and parts of parts.
use Rattle.std.proofs.Common.{◌≡◌, ◌≤◌, ◌+◌, ◌-◌, ℕ, List, length, take, drop, ap, ◌∙◌, arith}
use Rattle.std.proofs.lemmas.List.{length-take-le, length-drop, take-take, drop-take, drop-drop}
use Rattle.px_bytes.specs.Parts.{part}

-- a part that the block contains has its length
pub length_part : (b : List ℕ) (x n : ℕ) → x + n ≤ length b → length (part b x n) ≡ n
length_part b x n h = length-take-le n (drop x b) (let e = length-drop x b in omega arith)

-- a part without its first bytes
pub drop_part : (b : List ℕ) (x n y : ℕ) → y ≤ n → drop y (part b x n) ≡ part b (x + y) (n - y)
drop_part b x n y h =
    let e : n ≡ y + (n - y) = omega arith in
    ap (λ (k : ℕ). drop y (take k (drop x b))) e ∙ drop-take y (n - y) (drop x b) ∙ ap (take (n - y)) (drop-drop y x b)

-- a part of a part
pub part_part : (b : List ℕ) (x n y m : ℕ) → y + m ≤ n → part (part b x n) y m ≡ part b (x + y) m
part_part b x n y m h = ap (take m) (drop_part b x n y (omega arith)) ∙ take-take m (n - y) (drop (x + y) b) (omega arith)
