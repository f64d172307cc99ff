-- The normal form of a URI, as the value of an attribute, stands for the URI.
use Rattle.std.proofs.Common.{◌≡◌, ◌≤◌, ◌==◌, ◌&&◌, ◌||◌, ℕ, zero, suc, Bool, true, false, not, cond, nat_eq, inl, inr, subst, List, [], ◌∷◌, ◌++◌, length, drop}
use Rattle.std.proofs.Common.{Option, Some, option_map, option_and_then, refl, sym, ap, ◌∙◌, arith, eqb-true, codes}
use Rattle.std.proofs.lemmas.Bool.{cases_Bool, and_from}
use Rattle.std.specs.Char.{encode_utf8}
use Rattle.std.specs.List.{AllByRecursion, starts_with}
use Rattle.px_xmp_text.specs.References.{reference, entity_reference, character_reference, digits}
use Rattle.px_xmp_text.specs.Texts.{piece, text_in, text_of, normal_text, normal_octet}
use Rattle.px_xmp_text.specs.Laws.{NormalBound}
use Rattle.px_xmp_text.specs.declared.pieces.TextKind.TheVariants.{AttributeValue}
use Rattle.px_xmp_marks.specs.Declarations.{every}
use Rattle.px_xmp_forms.specs.Uris.{is_uri_octet, are_uri_octets, IsAbsolute}
use Rattle.px_xmp.proofs.WhiteLaws.{first_of, rest_of}

-- one piece, and then the rest
pub with_piece : (n o size : ℕ) (x text t : List ℕ) → piece AttributeValue (o ∷ x) ≡ Some (text, size)
    → text_in n AttributeValue (drop size (o ∷ x)) ≡ Some t → text_in (suc n) AttributeValue (o ∷ x) ≡ Some (text ++ t)
unfolding text_in
with_piece n o size x text t e f =
    ap (option_and_then (λ (p : List ℕ × ℕ). option_map (λ (s : List ℕ). p.0 ++ s) (text_in n AttributeValue (drop p.1 (o ∷ x))))) e
    ∙ ap (option_map (λ (s : List ℕ). text ++ s)) f

pub and_piece : (x : List ℕ) → piece AttributeValue (codes "&amp;" ++ x) ≡ Some (38 ∷ [], 5)
unfolding piece reference entity_reference encode_utf8
and_piece x = refl

less_piece : (x : List ℕ) → piece AttributeValue (codes "&lt;" ++ x) ≡ Some (60 ∷ [], 4)
unfolding piece reference entity_reference encode_utf8
less_piece x = refl

return_piece : (x : List ℕ) → piece AttributeValue (codes "&#13;" ++ x) ≡ Some (13 ∷ [], 5)
unfolding piece reference entity_reference character_reference digits encode_utf8
return_piece x = refl

more_piece : (x : List ℕ) → piece AttributeValue (codes "&gt;" ++ x) ≡ Some (62 ∷ [], 4)
unfolding piece reference entity_reference encode_utf8
more_piece x = refl

plain_if : (a b c : Bool) (p q r s : Option (List ℕ × ℕ)) → a ≡ false → b ≡ false → c ≡ false → cond (a && true) p (cond b q (cond c r s)) ≡ s
plain_if true b c p q r s h k l = absurd (cc)
plain_if false true c p q r s h k l = absurd (cc)
plain_if false false true p q r s h k l = absurd (cc)
plain_if false false false p q r s h k l = refl

pub plain_piece : (o : ℕ) (x : List ℕ) → (o == 38) ≡ false → (o == 13) ≡ false → ((o == 9) || (o == 10)) ≡ false
    → piece AttributeValue (o ∷ x) ≡ Some (o ∷ [], 1)
unfolding piece
plain_piece o x a b c = plain_if (o == 38) (o == 13) ((o == 9) || (o == 10)) _ _ _ _ a b c

-- an octet that is no reference in a normal form
pub unchanged_octet : (a b c d : Bool) (x y z w v : List ℕ) → a ≡ false → b ≡ false → c ≡ false → d ≡ false
    → cond a x (cond b y (cond c z (cond d w v))) ≡ v
unchanged_octet true b c d x y z w v e f g h = absurd (cc)
unchanged_octet false true c d x y z w v e f g h = absurd (cc)
unchanged_octet false false true d x y z w v e f g h = absurd (cc)
unchanged_octet false false false true x y z w v e f g h = absurd (cc)
unchanged_octet false false false false x y z w v e f g h = refl

-- no tabulator and no line feed, which would mean a space
abbrev IsOwnOctet : ℕ → Type 0
IsOwnOctet o = ((o == 9) || (o == 10)) ≡ false

octet_reads_back : (n o : ℕ) (x t : List ℕ) → IsOwnOctet o → text_in n AttributeValue x ≡ Some t
    → text_in (suc n) AttributeValue (normal_octet o ++ x) ≡ Some (o ∷ t)
octet_reads_back n o x t u h =
    let P : ℕ → Type 0 = λ j. text_in (suc n) AttributeValue (normal_octet j ++ x) ≡ Some (j ∷ t) in
    elim (cases_Bool (o == 38)) [
      | inl a ↦ subst P (sym (eqb-true o 38 a)) (with_piece n 38 5 _ (38 ∷ []) t (and_piece x) h)
      | inr a ↦ elim (cases_Bool (o == 60)) [
        | inl b ↦ subst P (sym (eqb-true o 60 b)) (with_piece n 38 4 _ (60 ∷ []) t (less_piece x) h)
        | inr b ↦ elim (cases_Bool (o == 62)) [
          | inl c ↦ subst P (sym (eqb-true o 62 c)) (with_piece n 38 4 _ (62 ∷ []) t (more_piece x) h)
          | inr c ↦ elim (cases_Bool (o == 13)) [
            | inl d ↦ subst P (sym (eqb-true o 13 d)) (with_piece n 38 5 _ (13 ∷ []) t (return_piece x) h)
            | inr d ↦
                let e : normal_octet o ≡ o ∷ [] = unchanged_octet (o == 38) (o == 60) (o == 62) (o == 13) _ _ _ _ _ a b c d in
                ap (λ (z : List ℕ). text_in (suc n) AttributeValue (z ++ x)) e
                ∙ with_piece n o 1 x (o ∷ []) t (plain_piece o x a d u) h
          ]
        ]
      ]
    ]

read_back : (n : ℕ) (t : List ℕ) → length t ≤ n → AllByRecursion IsOwnOctet t → text_in n AttributeValue (normal_text t) ≡ Some t
unfolding text_in
read_back n [] h u = refl
read_back zero (o ∷ t) h u = absurd (omega arith)
read_back (suc n) (o ∷ t) h u = octet_reads_back n o (normal_text t) t u.0 (read_back n t (omega arith) u.1)

-- ---- the octets of a URI, as its normal form has them

pub every_front : (f : ℕ → Bool) (x y : List ℕ) → every f (x ++ y) ≡ true → every f x ≡ true
every_front f [] y h = refl
every_front f (o ∷ x) y h = and_from (f o) (every f x) (first_of (f o) (every f (x ++ y)) h) (every_front f x y (rest_of (f o) (every f (x ++ y)) h))

pub every_back : (f : ℕ → Bool) (x y : List ℕ) → every f (x ++ y) ≡ true → every f y ≡ true
every_back f [] y h = h
every_back f (o ∷ x) y h = every_back f x y (rest_of (f o) (every f (x ++ y)) h)

pub uri_octets : (x : List ℕ) → are_uri_octets x ≡ true → every is_uri_octet x ≡ true
uri_octets [] h = refl
uri_octets (o ∷ x) h =
    let more = rest_of (is_uri_octet o) _ h in
    and_from (is_uri_octet o) (every is_uri_octet x) (first_of (is_uri_octet o) _ h)
    (uri_octets x (rest_of (not (o == 38) || starts_with nat_eq (o ∷ x) (codes "&amp;")) (are_uri_octets x) more))

own_octet : (o : ℕ) → every is_uri_octet (normal_octet o) ≡ true → IsOwnOctet o
own_octet o h =
    let P : ℕ → Type 0 = λ j. every is_uri_octet (normal_octet j) ≡ true in
    elim (cases_Bool (o == 9)) [
      | inl a ↦ let wrong : false ≡ true = subst P (eqb-true o 9 a) h in absurd (cc)
      | inr a ↦ elim (cases_Bool (o == 10)) [
        | inl b ↦ let wrong : false ≡ true = subst P (eqb-true o 10 b) h in absurd (cc)
        | inr b ↦ ap (λ (z : Bool). z || (o == 10)) a ∙ b
      ]
    ]

own_octets : (u : List ℕ) → every is_uri_octet (normal_text u) ≡ true → AllByRecursion IsOwnOctet u
own_octets [] h = tt
own_octets (o ∷ u) h = (
  own_octet o (every_front is_uri_octet (normal_octet o) (normal_text u) h),
  own_octets u (every_back is_uri_octet (normal_octet o) (normal_text u) h),
)

-- the value of an attribute that is the normal form of a URI stands for it
pub uri_reads_back : NormalBound → (u : List ℕ) → IsAbsolute (normal_text u) → text_of AttributeValue (normal_text u) ≡ Some u
uri_reads_back bound u h = read_back (length (normal_text u)) u (bound u).0 (own_octets u (uri_octets (normal_text u) h.0))
