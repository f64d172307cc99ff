-- Where a form names its extended XMP.
use Rattle.std.proofs.Common.{◌≡◌, ◌<◌, ◌++◌, ◌∙◌, refl, sym, ap, subst, arith, ℕ, zero, suc, Bool, true, false, List, [], ◌∷◌}
use Rattle.std.proofs.Common.{Option, Some, None, length, take, drop, append-nil}
use Rattle.std.proofs.lemmas.List.{append_cancel_left}
use Rattle.std.proofs.Math.Seq.{drop-append_seam}
use Rattle.std.specs.Prelude.{IfSome, MatchOption, nat_eq, if◌then◌else◌}
use Rattle.std.specs.List.{starts_with}
use Rattle.px_xmp_pictures.specs.Extension.{name_len}
use Rattle.px_xmp_pictures.specs.Joined.{label, name_start, name_end, before_part, Names, IsNamed}
use Rattle.px_xmp_pictures.specs.declared.joining.Pointer.{Pointer}

-- a list begins at the start
part_here : (w x : List ℕ) → starts_with nat_eq x w ≡ true → before_part w x ≡ []
part_here w [] h = refl
part_here w (o ∷ x) h = ap (λ (b : Bool). let y : List ℕ = if b then [] else o ∷ before_part w x in y) h

-- it does not begin at an offset
part_not_here : (w x : List ℕ) (n : ℕ) → n < length x → starts_with nat_eq (drop n x) w ≡ false
    → take (suc n) x ++ before_part w (drop (suc n) x) ≡ take n x ++ before_part w (drop n x)
part_not_here w [] n h s = absurd (omega arith)
part_not_here w (o ∷ x) zero h s = sym (ap (λ (b : Bool). let y : List ℕ = if b then [] else o ∷ before_part w x in y) s)
part_not_here w (o ∷ x) (suc n) h s = ap (λ (y : List ℕ). o ∷ y) (part_not_here w x n (omega arith) s)

pub part_later : (w x y : List ℕ) (n m : ℕ) → m ≡ suc n → n < length x → starts_with nat_eq (drop n x) w ≡ false
    → take n x ++ before_part w (drop n x) ≡ y → take m x ++ before_part w (drop m x) ≡ y
part_later w x y n m e h s k =
    subst (λ (z : ℕ). take z x ++ before_part w (drop z x) ≡ y) (sym e) (part_not_here w x n h s ∙ k)

-- it begins at an offset, and not before
pub part_first : (w x : List ℕ) (n : ℕ) → starts_with nat_eq (drop n x) w ≡ true → take n x ++ before_part w (drop n x) ≡ before_part w x
    → take n x ≡ before_part w x
part_first w x n s k =
    sym (append-nil (take n x)) ∙ ap (λ (y : List ℕ). take n x ++ y) (sym (part_here w (drop n x) s)) ∙ k

-- what is known at the first label is known of the form
pub named_at : (r : Option Pointer) (form front rest : List ℕ) → form ≡ front ++ rest → front ≡ before_part label form
    → IfSome r (λ p. p.front.now ≡ front)
    → MatchOption r ((name back : List ℕ) → Names rest name back → ⊥) (λ p. Names rest p.name.now p.back.now)
    → MatchOption r ((front2 name back : List ℕ) → IsNamed form front2 name back → ⊥) (λ p. IsNamed form p.front.now p.name.now p.back.now)
named_at None form front rest whole first same names = λ front2 name back i.
    let at : front2 ≡ front = i.first ∙ sym first in
    let left : i.rest ≡ rest =
    append_cancel_left front i.rest rest (ap (λ (z : List ℕ). z ++ i.rest) (sym at) ∙ sym i.whole ∙ whole) in
    names name back (subst (λ (z : List ℕ). Names z name back) left i.names)
named_at (Some p) form front rest whole first same names = record {
  rest = rest;
  whole = whole ∙ ap (λ (z : List ℕ). z ++ rest) (sym same);
  first = same ∙ first;
  names = names;
}

-- what follows a name
pub behind_name : (x rest name back : List ℕ) → x ≡ name_start ++ rest → Names x name back → drop name_len rest ≡ name_end ++ back
behind_name x rest name back e i =
    let same : rest ≡ name ++ (name_end ++ back) =
    append_cancel_left name_start rest (name ++ (name_end ++ back)) (sym e ∙ i.begun) in
    ap (λ (z : List ℕ). drop name_len z) same ∙ ap (λ (n : ℕ). drop n (name ++ (name_end ++ back))) (sym i.size)
    ∙ drop-append_seam name (name_end ++ back)
