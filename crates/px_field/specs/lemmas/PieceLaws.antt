-- Laws of bytes cut into parts of one size.
use Rattle.std.proofs.Common.{◌≡◌, ℕ, zero, suc, ◌+◌, ◌*◌, ◌<◌, inl, inr, List, [], ◌∷◌, ◌++◌, map, flat_map, length, take, drop, slice_get}
use Rattle.std.proofs.Common.{Some, refl, sym, ◌∙◌, ap, ap₂, subst, arith, append_assoc, length-append, length-take, get_or-take}
use Rattle.std.proofs.Common.{get_or-drop}
use Rattle.std.specs.List.{AllByRecursion}
use Rattle.std.proofs.lemmas.Bool.{cases_lt}
use Rattle.std.proofs.lemmas.Grind.{common_steps}
use Rattle.std.proofs.lemmas.List.{take_at, drop_at, get_or_past}
use Rattle.std.proofs.Math.Seq.{drop-drop}
use Rattle.px_bytes.specs.Numbers.{AreBytes}
use Rattle.px_bytes.specs.Parts.{pieces}

-- there are n parts
pub length_pieces : {A : Type 0} (n k : ℕ) (x : List A) → length (pieces n k x) ≡ n
length_pieces zero k x = refl
length_pieces (suc n) k x = ap suc (length_pieces n k (drop k x))

-- the part at i
pub get_pieces : {A : Type 0} (n k i at : ℕ) (x : List A) → i < n → at ≡ i * k → slice_get (pieces n k x) i ≡ Some (take k (drop at x))
get_pieces zero k i at x h e = absurd (omega arith)
get_pieces {A} (suc n) k zero at x h e =
    let none : at ≡ 0 = omega (arith, e) in
    rw none refl
get_pieces {A} (suc n) k (suc i) at x h e =
    let moved : drop (i * k) (drop k x) ≡ drop at x = grind (arith, common_steps, drop-drop {A = A}, e) in
    get_pieces n k i (i * k) (drop k x) (omega arith) refl ∙ ap (λ (l : List A). Some (take k l)) moved

-- parts of one size that are joined can be cut again
pub pieces_joined : {X A : Type 0} (k : ℕ) (f : X → List A) (xs : List X) (rest : List A) → AllByRecursion (λ x. length (f x) ≡ k) xs
    → pieces (length xs) k (flat_map f xs ++ rest) ≡ map f xs
pieces_joined k f [] rest h = refl
pieces_joined k f (x ∷ xs) rest h =
    let e = append_assoc (f x) (flat_map f xs) rest in
    let t = ap (take k) e ∙ take_at (f x) (flat_map f xs ++ rest) k h.0 in
    let d = ap (drop k) e ∙ drop_at (f x) (flat_map f xs ++ rest) k h.0 in
    ap₂ (λ y ys. y ∷ ys) t (ap (pieces (length xs) k) d ∙ pieces_joined k f xs rest h.1)

-- the length of joined parts is the sum of their sizes
pub length_joined : {X A : Type 0} (k : ℕ) (f : X → List A) (xs : List X) → AllByRecursion (λ x. length (f x) ≡ k) xs
    → length (flat_map f xs) ≡ length xs * k
length_joined k f [] h = omega arith
length_joined k f (x ∷ xs) h = let e = length_joined k f xs h.1 in let a = length-append (f x) (flat_map f xs) in let g = h.0 in omega arith

-- a property of each part
pub each_piece : {A : Type 0} (P Q : List A → Type 0) (n k : ℕ) (x : List A) → ((y : List A) → Q y → P (take k y))
    → ((y : List A) → Q y → Q (drop k y)) → Q x → AllByRecursion P (pieces n k x)
each_piece P Q zero k x t d q = tt
each_piece P Q (suc n) k x t d q = (t x q, each_piece P Q n k (drop k x) t d (d x q))

-- parts of bytes are bytes
pub bytes_take : (n : ℕ) (x : List ℕ) → AreBytes x → AreBytes (take n x)
bytes_take n x h i = elim (cases_lt i n) [
  | inl l ↦ subst (λ k. k < 256) (sym (get_or-take n x i 0 l)) (h i)
  | inr l ↦ subst (λ k. k < 256) (sym (get_or_past (take n x) i 0 (let e = length-take n x in omega arith))) (omega arith)
]

pub bytes_drop : (n : ℕ) (x : List ℕ) → AreBytes x → AreBytes (drop n x)
bytes_drop n x h i = subst (λ k. k < 256) (sym (get_or-drop n x i 0)) (h (n + i))
