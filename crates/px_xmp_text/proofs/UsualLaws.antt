-- Characters of usual octets are allowed.
use Rattle.std.proofs.Common.{◌≡◌, ◌≤◌, ◌<◌, ◌==◌, ◌&&◌, ◌||◌, ◌⊎◌, ℕ, true, false, not, nat_le, List, [], ◌∷◌, ◌++◌, refl, sym, ap, ◌∙◌, inl, inr, arith}
use Rattle.std.proofs.lemmas.Bool.{cases_Bool, both_ways, and_parts, and_from, and_left, and_right, or_parts, and_cases, leb-false, eqb-false, ne_eqb, cases_eq, or_from, lt-leb}
use Rattle.std.proofs.lemmas.Str.{encode_ascii}
use Rattle.std.specs.List.{AllByRecursion}
use Rattle.std.specs.Char.{encode_utf8}
use Rattle.std.specs.Str.{encode_utf8_all, IsUtf8, all_scalars}
use lib.Utf8.{scalar, scalar_cases}
use Rattle.px_xmp_text.specs.References.{is_char}
use Rattle.px_xmp_text.specs.Characters.{AreCharacters}
use Rattle.px_xmp_text.specs.calls.Usual.{is_usual, are_usual}

usual_parts : (l : ℕ) (x y : List ℕ) → are_usual l (x ++ y) ≡ true → (are_usual l x ≡ true) × ((k : ℕ) × (are_usual k y ≡ true))
usual_parts l [] y h = (refl, (l, h))
usual_parts l (o ∷ x) y h =
    let p = and_parts (is_usual l o) (are_usual o (x ++ y)) h in
    let q = usual_parts o x y p.1 in
    (and_from (is_usual l o) (are_usual o x) p.0 q.0, q.1)

other_65534 : (l : ℕ) → are_usual l (encode_utf8 65534) ≡ false
unfolding encode_utf8
other_65534 l = and_right (is_usual l 239) (are_usual 239 (191 ∷ 190 ∷ [])) refl

other_65535 : (l : ℕ) → are_usual l (encode_utf8 65535) ≡ false
unfolding encode_utf8
other_65535 l = and_right (is_usual l 239) (are_usual 239 (191 ∷ 191 ∷ [])) refl

-- a control character that is no white space
control : (l c : ℕ) → c < 32 → (c ≡ 9 → ⊥) → (c ≡ 10 → ⊥) → (c ≡ 13 → ⊥) → are_usual l (encode_utf8 c) ≡ false
control l c low t n r =
    ap (are_usual l) (encode_ascii c (omega (arith, low)))
    ∙ and_left (is_usual l c) true (and_left (nat_le 32 c || (c == 9) || (c == 10) || (c == 13)) (not ((l == 239) && (c == 191)))
    (or_from (nat_le 32 c || (c == 9) || (c == 10)) (c == 13) (or_from (nat_le 32 c || (c == 9)) (c == 10)
    (or_from (nat_le 32 c) (c == 9) (lt-leb 32 c low) (ne_eqb c 9 t)) (ne_eqb c 10 n)) (ne_eqb c 13 r)))

-- which numbers are no characters
forbidden : (c : ℕ) → is_char c ≡ false → (c < 55296) ⊎ ((57344 ≤ c) × (c < 1114112))
    → ((c < 32) × (c ≡ 9 → ⊥) × (c ≡ 10 → ⊥) × (c ≡ 13 → ⊥)) ⊎ (c ≡ 65534) ⊎ (c ≡ 65535)
forbidden c h s =
    let A = nat_le 32 c && nat_le c 55295 in
    let B = nat_le 57344 c && nat_le c 65533 in
    let C = nat_le 65536 c && nat_le c 1114111 in
    let p = or_parts ((c == 9) || (c == 10) || (c == 13) || A || B) C h in
    let q = or_parts ((c == 9) || (c == 10) || (c == 13) || A) B p.0 in
    let r = or_parts ((c == 9) || (c == 10) || (c == 13)) A q.0 in
    let t = or_parts ((c == 9) || (c == 10)) (c == 13) r.0 in
    let u = or_parts (c == 9) (c == 10) t.0 in
    by_range (eqb-false c 9 u.0, eqb-false c 10 u.1, eqb-false c 13 t.1) s (outside 32 c 55295 r.1) (outside 57344 c 65533 q.1)
    (outside 65536 c 1114111 p.1)
  where
    outside : (a c b : ℕ) → (nat_le a c && nat_le c b) ≡ false → (c < a) ⊎ (b < c)
    outside a c b e = elim (and_cases (nat_le a c) (nat_le c b) e) [ inl f ↦ inl (leb-false a c f) | inr f ↦ inr (leb-false c b f) ]

    by_range : (c ≡ 9 → ⊥) × (c ≡ 10 → ⊥) × (c ≡ 13 → ⊥) → (c < 55296) ⊎ ((57344 ≤ c) × (c < 1114112)) → (c < 32) ⊎ (55295 < c)
        → (c < 57344) ⊎ (65533 < c) → (c < 65536) ⊎ (1114111 < c)
        → ((c < 32) × (c ≡ 9 → ⊥) × (c ≡ 10 → ⊥) × (c ≡ 13 → ⊥)) ⊎ (c ≡ 65534) ⊎ (c ≡ 65535)
    by_range n s (inl low) j k = inl (low, n.0, n.1, n.2)
    by_range n (inl s) (inr high) j k = absurd (omega (arith, s, high))
    by_range n (inr s) (inr high) (inl j) k = absurd (omega (arith, s.0, j))
    by_range n (inr s) (inr high) (inr j) (inr k) = absurd (omega (arith, s.1, k))
    by_range n (inr s) (inr high) (inr j) (inl k) = elim (cases_eq c 65534) [ inl e ↦ inr (inl e) | inr other ↦ inr (inr (omega (arith, j, k, other))) ]

usual_char : (l c : ℕ) → scalar c ≡ true → are_usual l (encode_utf8 c) ≡ true → is_char c ≡ true
usual_char l c s u = elim (cases_Bool (is_char c)) [
  | inl t ↦ t
  | inr f ↦ absurd (both_ways (are_usual l (encode_utf8 c)) (wrong (forbidden c f (scalar_cases c s))) u)
]
  where
    wrong : ((c < 32) × (c ≡ 9 → ⊥) × (c ≡ 10 → ⊥) × (c ≡ 13 → ⊥)) ⊎ (c ≡ 65534) ⊎ (c ≡ 65535) → are_usual l (encode_utf8 c) ≡ false
    wrong (inl (low, t, n, r)) = control l c low t n r
    wrong (inr (inl e)) = ap (λ (k : ℕ). are_usual l (encode_utf8 k)) e ∙ other_65534 l
    wrong (inr (inr e)) = ap (λ (k : ℕ). are_usual l (encode_utf8 k)) e ∙ other_65535 l

allowed : (l : ℕ) (cs : List ℕ) → all_scalars cs ≡ true → are_usual l (encode_utf8_all cs) ≡ true → AllByRecursion (λ c. is_char c ≡ true) cs
allowed l [] s u = tt
allowed l (c ∷ cs) s u =
    let p = and_parts (scalar c) (all_scalars cs) s in
    let q = usual_parts l (encode_utf8 c) (encode_utf8_all cs) u in
    (usual_char l c p.0 q.0, allowed q.1.0 cs p.1 q.1.1)

pub usual_characters : (x : List ℕ) → IsUtf8 x → are_usual 0 x ≡ true → AreCharacters x
usual_characters x (cs, (s, e)) u = (cs, allowed 0 cs s (ap (are_usual 0) e ∙ u), sym e)
