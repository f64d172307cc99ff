-- The laws of texts.
use Rattle.std.proofs.Common.{◌≡◌, ◌≤◌, ◌==◌, ◌&&◌, ◌||◌, ℕ, zero, suc, Bool, true, false, cond, inl, inr, subst, List, [], ◌∷◌, ◌++◌, length, drop}
use Rattle.std.proofs.Common.{Option, Some, option_map, option_and_then, refl, sym, ap, ◌∙◌, arith, eqb-true, length-append, codes}
use Rattle.std.proofs.lemmas.Bool.{cases_Bool}
use Rattle.px_xmp_text.specs.References.{reference, entity_reference, character_reference, digits}
use Rattle.px_xmp_text.specs.Texts.{piece, text_in, text_of, normal_text, normal_octet}
use Rattle.px_xmp_text.specs.Laws.{NormalReadsBack, NormalIsInjective, NormalBound}
use Rattle.px_xmp_text.specs.declared.pieces.TextKind.{TextKind}
use Rattle.px_xmp_text.specs.declared.pieces.TextKind.TheVariants.{CharacterData}
use Rattle.std.specs.Char.{encode_utf8}

-- ---- length

five : (P : List ℕ → Type 0) (a b c d : Bool) (x y z w v : List ℕ) → P x → P y → P z → P w → P v
    → P (cond a x (cond b y (cond c z (cond d w v))))
five P true b c d x y z w v px py pz pw pv = px
five P false true c d x y z w v px py pz pw pv = py
five P false false true d x y z w v px py pz pw pv = pz
five P false false false true x y z w v px py pz pw pv = pw
five P false false false false x y z w v px py pz pw pv = pv

octet_bound : (o : ℕ) → (1 ≤ length (normal_octet o)) × (length (normal_octet o) ≤ 5)
octet_bound o =
    five (λ z. (1 ≤ length z) × (length z ≤ 5)) (o == 38) (o == 60) (o == 62) (o == 13) _ _ _ _ _ (omega arith, omega arith)
    (omega arith, omega arith) (omega arith, omega arith) (omega arith, omega arith) (omega arith, omega arith)

pub normal_bound : NormalBound
normal_bound [] = (omega arith, omega arith)
normal_bound (o ∷ t) =
    let e = length-append (normal_octet o) (normal_text t) in
    let b = octet_bound o in
    let r = normal_bound t in (omega arith, omega arith)

-- ---- a normal_text form stands for its text

plain_if : (a b c : Bool) (p q r : Option (List ℕ × ℕ)) → a ≡ false → b ≡ false → cond (a && true) p (cond b q (cond c r r)) ≡ r
plain_if true b c p q r h k = absurd (cc)
plain_if false true c p q r h k = absurd (cc)
plain_if false false true p q r h k = refl
plain_if false false false p q r h k = refl

plain_piece : (o : ℕ) (x : List ℕ) → (o == 38) ≡ false → (o == 13) ≡ false → piece CharacterData (o ∷ x) ≡ Some (o ∷ [], 1)
unfolding piece
plain_piece o x a b = plain_if (o == 38) (o == 13) ((o == 9) || (o == 10)) _ _ _ a b

plain_octet : (a b c d : Bool) (x y z w v : List ℕ) → a ≡ false → b ≡ false → c ≡ false → d ≡ false
    → cond a x (cond b y (cond c z (cond d w v))) ≡ v
plain_octet true b c d x y z w v e f g h = absurd (cc)
plain_octet false true c d x y z w v e f g h = absurd (cc)
plain_octet false false true d x y z w v e f g h = absurd (cc)
plain_octet false false false true x y z w v e f g h = absurd (cc)
plain_octet false false false false x y z w v e f g h = refl

-- one piece, and then the rest
with_piece : (n : ℕ) (k : TextKind) (o size : ℕ) (x text t : List ℕ) → piece k (o ∷ x) ≡ Some (text, size)
    → text_in n k (drop size (o ∷ x)) ≡ Some t → text_in (suc n) k (o ∷ x) ≡ Some (text ++ t)
unfolding text_in
with_piece n k o size x text t e f =
    ap (option_and_then (λ (p : List ℕ × ℕ). option_map (λ (s : List ℕ). p.0 ++ s) (text_in n k (drop p.1 (o ∷ x))))) e
    ∙ ap (option_map (λ (s : List ℕ). text ++ s)) f

and_piece : (x : List ℕ) → piece CharacterData (codes "&amp;" ++ x) ≡ Some (38 ∷ [], 5)
unfolding piece reference entity_reference encode_utf8
and_piece x = refl

less_piece : (x : List ℕ) → piece CharacterData (codes "&lt;" ++ x) ≡ Some (60 ∷ [], 4)
unfolding piece reference entity_reference encode_utf8
less_piece x = refl

more_piece : (x : List ℕ) → piece CharacterData (codes "&gt;" ++ x) ≡ Some (62 ∷ [], 4)
unfolding piece reference entity_reference encode_utf8
more_piece x = refl

return_piece : (x : List ℕ) → piece CharacterData (codes "&#13;" ++ x) ≡ Some (13 ∷ [], 5)
unfolding piece reference entity_reference character_reference digits encode_utf8
return_piece x = refl

octet_reads_back : (n o : ℕ) (x t : List ℕ) → text_in n CharacterData x ≡ Some t → text_in (suc n) CharacterData (normal_octet o ++ x) ≡ Some (o ∷ t)
octet_reads_back n o x t h =
    let P : ℕ → Type 0 = λ j. text_in (suc n) CharacterData (normal_octet j ++ x) ≡ Some (j ∷ t) in
    elim (cases_Bool (o == 38)) [
      | inl a ↦ subst P (sym (eqb-true o 38 a)) (with_piece n CharacterData 38 5 _ (38 ∷ []) t (and_piece x) h)
      | inr a ↦ elim (cases_Bool (o == 60)) [
        | inl b ↦ subst P (sym (eqb-true o 60 b)) (with_piece n CharacterData 38 4 _ (60 ∷ []) t (less_piece x) h)
        | inr b ↦ elim (cases_Bool (o == 62)) [
          | inl c ↦ subst P (sym (eqb-true o 62 c)) (with_piece n CharacterData 38 4 _ (62 ∷ []) t (more_piece x) h)
          | inr c ↦ elim (cases_Bool (o == 13)) [
            | inl d ↦ subst P (sym (eqb-true o 13 d)) (with_piece n CharacterData 38 5 _ (13 ∷ []) t (return_piece x) h)
            | inr d ↦
                let e : normal_octet o ≡ o ∷ [] = plain_octet (o == 38) (o == 60) (o == 62) (o == 13) _ _ _ _ _ a b c d in
                ap (λ (z : List ℕ). text_in (suc n) CharacterData (z ++ x)) e ∙ with_piece n CharacterData o 1 x (o ∷ []) t (plain_piece o x a d) h
          ]
        ]
      ]
    ]

read_back : (n : ℕ) (t : List ℕ) → length t ≤ n → text_in n CharacterData (normal_text t) ≡ Some t
unfolding text_in
read_back n [] h = refl
read_back zero (o ∷ t) h = absurd (omega arith)
read_back (suc n) (o ∷ t) h = octet_reads_back n o (normal_text t) t (read_back n t (omega arith))

pub normal_reads_back : NormalReadsBack
normal_reads_back t = read_back (length (normal_text t)) t (normal_bound t).0

pub normal_is_injective : NormalIsInjective
normal_is_injective s t = (
  λ h.
      let e : Some s ≡ Some t = sym (normal_reads_back s) ∙ ap (λ (x : List ℕ). text_of CharacterData x) h ∙ normal_reads_back t in
      cc,
  λ h. ap normal_text h,
)
