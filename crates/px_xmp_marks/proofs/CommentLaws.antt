-- What is read as a comment is one, and each is read.
use Rattle.std.proofs.Common.{◌≡◌, ◌+◌, ℕ, suc, false, cond, nat_eq, get_or, codes, List, [], ◌∷◌, ◌++◌, length, take, drop}
use Rattle.std.proofs.Common.{Option, Some, None, option_and_then, sym, ap, subst, inl, inr, ◌∙◌, refl, arith, append_assoc, length-append}
use Rattle.std.proofs.lemmas.List.{take_at, drop_at, take-append-drop}
use Rattle.std.proofs.lemmas.Bool.{cases_Bool, cond-true, cond-false}
use Rattle.std.specs.List.{starts_with}
use Rattle.px_xmp_marks.specs.Sections.{find, HasNo}
use Rattle.px_xmp_marks.specs.Comments.{to_hyphens, comment, IsComment, CommentsAreRead, OnlyCommentsAreRead}
use Rattle.px_xmp_marks.proofs.NameLaws.{some_same}
use Rattle.px_xmp_marks.proofs.TagLaws.{starts_from}
use Rattle.px_xmp_marks.proofs.SectionLaws.{Found, find_found}

abbrev hyphens : List ℕ
hyphens = codes "--"

comment_here : (o : ℕ) (y rest : List ℕ) → HasNo hyphens (o ∷ (y ++ codes "-"))
    → starts_with nat_eq (o ∷ (y ++ (hyphens ++ rest))) hyphens ≡ false
comment_here o y rest h = elim (cases_Bool (starts_with nat_eq (o ∷ (y ++ (hyphens ++ rest))) hyphens)) [
  | inr f ↦ f
  | inl t ↦ absurd (by_length o y h (starts_from hyphens (o ∷ (y ++ (hyphens ++ rest))) t))
]
  where
    by_length : (o : ℕ) (y : List ℕ) → HasNo hyphens (o ∷ (y ++ codes "-"))
        → o ∷ (y ++ (hyphens ++ rest)) ≡ hyphens ++ drop 2 (o ∷ (y ++ (hyphens ++ rest))) → ⊥
    by_length o [] h e = let a : o ≡ 45 = ap (λ (z : List ℕ). get_or z 0 0) e in h [] [] (cc)
    by_length o (d ∷ y) h e =
        let a : o ≡ 45 = ap (λ (z : List ℕ). get_or z 0 0) e in
        let b : d ≡ 45 = ap (λ (z : List ℕ). get_or z 1 0) e in
        h [] (y ++ codes "-") (cc)

comment_found : (j : ℕ) (y rest : List ℕ) → HasNo hyphens (y ++ codes "-") → find hyphens j (y ++ (hyphens ++ rest)) ≡ Some (j + length y)
unfolding find
comment_found j [] rest h = ap Some (omega arith)
comment_found j (o ∷ y) rest h =
    cond-false (starts_with nat_eq (o ∷ (y ++ (hyphens ++ rest))) hyphens) (Some j) (find hyphens (suc j) (y ++ (hyphens ++ rest)))
    (comment_here o y rest h)
    ∙ comment_found (suc j) y rest (λ a b e. h (o ∷ a) b (ap (λ (z : List ℕ). o ∷ z) e)) ∙ ap Some (omega arith)

pub comments_are_read : CommentsAreRead
unfolding comment
comments_are_read x rest y (h, w) =
    let end = codes "-->" ++ rest in
    let z = y ++ end in
    let all : x ++ rest ≡ codes "<!--" ++ z =
    ap (λ (u : List ℕ). u ++ rest) w ∙ ap (λ (u : List ℕ). codes "<!--" ++ u) (append_assoc y (codes "-->") rest) in
    ap comment all ∙ ap (option_and_then (to_hyphens z)) (comment_found 0 y (62 ∷ rest) h ∙ ap Some (omega arith))
    ∙ ap (λ (u : List ℕ). cond (starts_with nat_eq u (codes "-->")) (Some (take (length y) z)) None) (drop_at y end (length y) refl)
    ∙ ap Some (take_at y end (length y) refl)

pub only_comments_are_read : OnlyCommentsAreRead
unfolding comment
only_comments_are_read x y h = elim (cases_Bool (starts_with nat_eq x (codes "<!--"))) [
  | inl t ↦
      by_find x y (starts_from (codes "<!--") x t) (find hyphens 0 (drop 4 x)) refl
      (sym (cond-true (starts_with nat_eq x (codes "<!--")) _ None t) ∙ h)
  | inr f ↦
      let e = sym (cond-false (starts_with nat_eq x (codes "<!--")) (option_and_then (to_hyphens (drop 4 x)) (find hyphens 0 (drop 4 x))) None f) ∙ h in
      absurd (cc)
]
  where
    by_end : (x y : List ℕ) (n : ℕ) → x ≡ codes "<!--" ++ drop 4 x → Found hyphens (drop 4 x) n → take n (drop 4 x) ≡ y
        → drop n (drop 4 x) ≡ codes "-->" ++ drop 3 (drop n (drop 4 x)) → (front rest : List ℕ) × (x ≡ front ++ rest) × IsComment front y
    by_end x y n w r same end =
        let z = drop 4 x in
        let rest = drop 3 (drop n z) in
        let all : z ≡ y ++ (codes "-->" ++ rest) =
        sym (take-append-drop n z) ∙ ap (λ (u : List ℕ). take n z ++ u) end ∙ ap (λ (u : List ℕ). u ++ (codes "-->" ++ rest)) same in
        let whole : x ≡ (codes "<!--" ++ (y ++ codes "-->")) ++ rest =
        w ∙ ap (λ (u : List ℕ). codes "<!--" ++ u) (all ∙ sym (append_assoc y (codes "-->") rest)) in
        let len : length y ≡ n = ap length (sym same) ∙ r.size in (
          codes "<!--" ++ (y ++ codes "-->"),
          rest,
          whole,
          (
            λ a b e.
                let more = codes "->" ++ rest in
                let again : z ≡ a ++ (hyphens ++ (b ++ more)) =
                all ∙ sym (append_assoc y (codes "-") more) ∙ ap (λ (u : List ℕ). u ++ more) e ∙ append_assoc a (hyphens ++ b) more in
                let low = r.none a (b ++ more) again in
                absurd (omega (arith, low, len, ap length e, length-append y (codes "-"), length-append a (hyphens ++ b))),
            refl,
          ),
        )

    by_find : (x y : List ℕ) → x ≡ codes "<!--" ++ drop 4 x → (q : Option ℕ) → find hyphens 0 (drop 4 x) ≡ q
        → option_and_then (to_hyphens (drop 4 x)) q ≡ Some y → (front rest : List ℕ) × (x ≡ front ++ rest) × IsComment front y
    by_find x y w None e h = absurd (cc)
    by_find x y w (Some n) e h =
        let z = drop 4 x in
        let (k, at, r) = find_found hyphens (λ b. refl) 0 z n e in
        let P : ℕ → Type 0 = Found hyphens z in
        let eq : k ≡ n = omega (arith, at) in
        elim (cases_Bool (starts_with nat_eq (drop n z) (codes "-->"))) [
          | inl t ↦
              by_end x y n w (subst P eq r) (some_same (take n z) y (sym (cond-true (starts_with nat_eq (drop n z) (codes "-->")) (Some (take n z)) None t) ∙ h))
              (starts_from (codes "-->") (drop n z) t)
          | inr f ↦ let e = sym (cond-false (starts_with nat_eq (drop n z) (codes "-->")) (Some (take n z)) None f) ∙ h in absurd (cc)
        ]
