-- The parts of a language.
use Rattle.std.proofs.Common.{◌≡◌, ◌+◌, ◌∙◌, ◌++◌, ℕ, Bool, true, false, cond, inl, inr, List, [], ◌∷◌, length, refl, sym, ap, subst, append-nil, arith}
use Rattle.std.proofs.lemmas.Bool.{and_parts}
use Rattle.std.specs.List.{list_all, prefix_len}
use Rattle.px_xmp_forms.specs.Languages.{is_part_octet, IsPart, AreParts, EndsPart}

nothing_left : (x : List ℕ) → length x ≡ 0 → x ≡ []
nothing_left [] e = refl
nothing_left (o ∷ x) e = absurd (omega (arith, e))

-- a part, after which there is nothing
pub last_part : (first : Bool) (part after x : List ℕ) → IsPart first part → x ≡ part ++ after → length after ≡ 0 → AreParts first (part ∷ []) x
last_part first part after x is e none = (is, e ∙ ap (λ (z : List ℕ). part ++ z) (nothing_left after none) ∙ append-nil part)

-- a part before others
pub more_parts : (first : Bool) (part after rest x : List ℕ) (ps : List (List ℕ)) → IsPart first part → x ≡ part ++ after → after ≡ 45 ∷ rest
    → AreParts false ps rest → AreParts first (part ∷ ps) x
more_parts first part after rest x [] is e f h = absurd h
more_parts first part after rest x (q ∷ ps) is e f h = (is, rest, e ∙ ap (λ (z : List ℕ). part ++ z) f, h)

-- ---- the part at the start is the longest

prefix_all : (p : ℕ → Bool) (x : List ℕ) → list_all p x ≡ true → prefix_len p x ≡ length x
prefix_all p [] h = refl
prefix_all p (o ∷ x) h =
    let (a, b) = and_parts (p o) (list_all p x) h in
    let more = prefix_all p x b in
    let step : prefix_len p (o ∷ x) ≡ 1 + prefix_len p x = ap (λ (t : Bool). cond t (1 + prefix_len p x) 0) a in omega arith

pub prefix_stops : (p : ℕ → Bool) (x y : List ℕ) (d : ℕ) → list_all p x ≡ true → p d ≡ false → prefix_len p (x ++ d ∷ y) ≡ length x
prefix_stops p [] y d h k = ap (λ (t : Bool). cond t (1 + prefix_len p y) 0) k
prefix_stops p (o ∷ x) y d h k =
    let (a, b) = and_parts (p o) (list_all p x) h in
    let more = prefix_stops p x y d b k in
    let step : prefix_len p (o ∷ (x ++ d ∷ y)) ≡ 1 + prefix_len p (x ++ d ∷ y) = ap (λ (t : Bool). cond t (1 + prefix_len p (x ++ d ∷ y)) 0) a in
    omega arith

no_hyphen : (first : Bool) → is_part_octet first 45 ≡ false
no_hyphen true = refl
no_hyphen false = refl

pub part_length : (first : Bool) (part rest x : List ℕ) → IsPart first part → EndsPart rest → x ≡ part ++ rest
    → prefix_len (is_part_octet first) x ≡ length part
part_length first part rest x is (inl none) e =
    let p = is_part_octet first in
    ap (prefix_len p) (e ∙ ap (λ (z : List ℕ). part ++ z) none ∙ append-nil part) ∙ prefix_all p part is.0
part_length first part rest x is (inr (y, hyphen)) e =
    let p = is_part_octet first in
    ap (prefix_len p) (e ∙ ap (λ (z : List ℕ). part ++ z) hyphen) ∙ prefix_stops p part y 45 is.0 (no_hyphen first)

-- parts begin with one, after which there is nothing or a hyphen and other parts
pub record Begins (first : Bool) (x : List ℕ) : Type 0 where
  pub part : List ℕ
  pub rest : List ℕ
  pub is : IsPart first part
  pub joined : x ≡ part ++ rest
  pub ends : EndsPart rest
  pub more : (o : ℕ) (y : List ℕ) → rest ≡ o ∷ y → (o ≡ 45) × (qs : List (List ℕ)) × AreParts false qs y

pub parts_begin : (first : Bool) (ps : List (List ℕ)) (x : List ℕ) → AreParts first ps x → Begins first x
parts_begin first [] x h = absurd h
parts_begin first (p ∷ []) x h = record {
  part = p;
  rest = [];
  is = h.0;
  joined = h.1 ∙ sym (append-nil p);
  ends = inl refl;
  more = λ o y e. absurd (cc);
}
parts_begin first (p ∷ q ∷ ps) x h = record {
  part = p;
  rest = 45 ∷ h.1;
  is = h.0;
  joined = h.2;
  ends = inr (h.1, refl);
  more = λ o y e. (cc, q ∷ ps, subst (AreParts false (q ∷ ps)) (cc) h.3);
}
