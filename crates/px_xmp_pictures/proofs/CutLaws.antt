-- Octets that are cut at an offset.
use Rattle.std.proofs.Common.{◌≡◌, ◌++◌, ◌∙◌, ◌-◌, ap, sym, refl, arith, ℕ, true, false, List, [], ◌∷◌, length, take, drop, length-append}
use Rattle.std.specs.Prelude.{not, nat_eq}
use Rattle.std.specs.Cmp.Lexicographic.{pointwise}
use Rattle.std.proofs.lemmas.Bool.{and_from, eq-eqb}
use Rattle.std.proofs.lemmas.List.{take-append-drop}
use Rattle.std.proofs.Math.Seq.{take-append_seam, drop-append_seam}

-- they are both sides, one after the other
pub cut_whole : (x front back : List ℕ) (n : ℕ) → front ≡ take n x → drop n x ≡ back → x ≡ front ++ back
cut_whole x front back n f b = sym (take-append-drop n x) ∙ ap (λ y. y ++ drop n x) (sym f) ∙ ap (λ y. front ++ y) b

-- so too behind others
pub cut_behind : (x first rest front back : List ℕ) (n : ℕ) → x ≡ first ++ rest → front ≡ take n rest → drop n rest ≡ back
    → x ≡ first ++ (front ++ back)
cut_behind x first rest front back n whole f b = whole ∙ ap (λ y. first ++ y) (cut_whole rest front back n f b)

-- first octets, and last octets, are what is cut off at their length
pub first_cut : (x first rest : List ℕ) → x ≡ first ++ rest → take (length first) x ≡ first
first_cut x first rest e = ap (λ (y : List ℕ). take (length first) y) e ∙ take-append_seam first rest

pub last_cut : (x rest last : List ℕ) → x ≡ rest ++ last → drop (length x - length last) x ≡ last
last_cut x rest last e =
    let size : length x - length last ≡ length rest = omega (arith, ap length e, length-append rest last) in
    ap (λ (n : ℕ). drop n x) size ∙ ap (λ (y : List ℕ). drop (length rest) y) e ∙ drop-append_seam rest last

same_self : (x : List ℕ) → pointwise nat_eq x x ≡ true
same_self [] = refl
same_self (o ∷ x) = and_from (nat_eq o o) (pointwise nat_eq x x) (eq-eqb o o refl) (same_self x)

-- lists that are found to be different
pub found_different : (x y : List ℕ) → true ≡ not (pointwise nat_eq x y) → x ≡ y → ⊥
found_different x y h e =
    let clash : true ≡ false = h ∙ ap (λ (z : List ℕ). not (pointwise nat_eq z y)) e ∙ ap not (same_self y) in absurd (cc)
