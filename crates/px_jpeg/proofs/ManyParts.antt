-- Parts one after another, computed from the bytes, and as the grammar says them.
use Rattle.std.proofs.Common.{◌≡◌, ◌≤◌, ◌+◌, ◌-◌, ℕ, zero, suc, true, false, if◌then◌else◌, inl, inr, Option, Some, None, option_map}
use Rattle.std.proofs.Common.{List, [], ◌∷◌, ◌++◌, length, drop, refl, sym, ap, ◌∙◌, subst, arith, length-drop, length-append, append_assoc}
use Rattle.std.proofs.Common.{append-nil, drop_at}
use Rattle.std.proofs.lemmas.Bool.{cond-true, cond-false, cases_Bool}
use Rattle.px_jpeg.specs.declared.parts.Part.{Part}
use Rattle.px_jpeg.specs.Head.{stands_alone, is_last, IsPart, Encodes, NoneLast, EndsAtLast}
use Rattle.px_jpeg.specs.Reading.{after, code_of, count, size_of, is_part, part, size, parts_of, parts_left}
use Rattle.px_jpeg.proofs.OnePart.{Reads, part_reads, part_begins}

-- ---- how far a walk has to go makes no difference

pub size_ge : (x : List ℕ) → 1 ≤ size x
unfolding size
size_ge x = elim (cases_Bool (stands_alone (code_of (after x)))) [
  | inl t ↦ let e : size_of (after x) ≡ 1 = cond-true (stands_alone (code_of (after x))) 1 (1 + count (after x)) t in omega arith
  | inr f ↦
      let e : size_of (after x) ≡ 1 + count (after x) = cond-false (stands_alone (code_of (after x))) 1 (1 + count (after x)) f in
      omega arith
]

shorter : (x : List ℕ) → length (drop (size x) x) ≤ length x - 1
shorter x = omega (arith, length-drop (size x) x, size_ge x)

parts_of_nil : (n p : ℕ) → parts_of n p [] ≡ None
unfolding parts_of is_part
parts_of_nil zero p = refl
parts_of_nil (suc n) p = refl

same_parts : (n m p : ℕ) (x : List ℕ) → length x ≤ n → length x ≤ m → parts_of n p x ≡ parts_of m p x
unfolding parts_of
same_parts zero m p [] h k = sym (parts_of_nil m p)
same_parts zero m p (o ∷ x) h k = absurd (omega arith)
same_parts (suc n) zero p [] h k = parts_of_nil (suc n) p
same_parts (suc n) zero p (o ∷ x) h k = absurd (omega arith)
same_parts (suc n) (suc m) p x h k =
    let l = shorter x in
    ap (λ (o : Option (List Part)). if is_part x then
    (if is_last (part p x).code then Some (part p x ∷ []) else option_map (λ qs. part p x ∷ qs) o) else None)
    (same_parts n m (p + size x) (drop (size x) x) (omega arith) (omega arith))

-- ---- one step

pub left_none : (p : ℕ) (x : List ℕ) → is_part x ≡ false → parts_left p x ≡ None
unfolding parts_left parts_of
left_none p [] e = refl
left_none p (o ∷ x) e = cond-false (is_part (o ∷ x)) _ _ e

nil_no_part : is_part [] ≡ true → ⊥
unfolding is_part
nil_no_part e = let clash : false ≡ true = e in cc

left_last : (p : ℕ) (x : List ℕ) → is_part x ≡ true → is_last (part p x).code ≡ true → parts_left p x ≡ Some (part p x ∷ [])
unfolding parts_left parts_of
left_last p [] e f = absurd (nil_no_part e)
left_last p (o ∷ x) e f = cond-true (is_part (o ∷ x)) _ _ e ∙ cond-true (is_last (part p (o ∷ x)).code) _ _ f

left_more : (p : ℕ) (x : List ℕ) → is_part x ≡ true → is_last (part p x).code ≡ false
    → parts_left p x ≡ option_map (λ qs. part p x ∷ qs) (parts_left (p + size x) (drop (size x) x))
unfolding parts_left parts_of
left_more p [] e f = absurd (nil_no_part e)
left_more p (o ∷ x) e f =
    let l = shorter (o ∷ x) in
    let y = drop (size (o ∷ x)) (o ∷ x) in
    cond-true (is_part (o ∷ x)) _ _ e ∙ cond-false (is_last (part p (o ∷ x)).code) _ _ f
    ∙ ap (option_map (λ qs. part p (o ∷ x) ∷ qs)) (same_parts (length x) (length y) (p + size (o ∷ x)) y (omega arith) (omega arith))

module _ (p : ℕ) (q : Part) (n : ℕ) (x : List ℕ) (r : Reads p q n x) where
  pub reads_last : is_last q.code ≡ true → parts_left p x ≡ Some (q ∷ [])
  reads_last h =
      left_last p x r.there (ap (λ (s : Part). is_last s.code) r.value ∙ h) ∙ ap (λ (s : Part). Some (s ∷ [])) r.value

  pub reads_more : is_last q.code ≡ false → parts_left p x ≡ option_map (λ qs. q ∷ qs) (parts_left (p + n) (drop n x))
  reads_more h =
      left_more p x r.there (ap (λ (s : Part). is_last s.code) r.value ∙ h)
      ∙ ap (λ (s : Part). option_map (λ (qs : List Part). s ∷ qs) (parts_left (p + size x) (drop (size x) x))) r.value
      ∙ ap (λ (m : ℕ). option_map (λ (qs : List Part). q ∷ qs) (parts_left (p + m) (drop m x))) r.sized

-- ---- from the grammar

mapped_twice : (q : Part) (qs : List Part) (o : Option (List Part))
    → option_map (λ rs. q ∷ rs) (option_map (λ rs. qs ++ rs) o) ≡ option_map (λ rs. (q ∷ qs) ++ rs) o
mapped_twice q qs None = refl
mapped_twice q qs (Some rs) = refl

mapped_nil : (o : Option (List Part)) → o ≡ option_map (λ rs. [] ++ rs) o
mapped_nil None = refl
mapped_nil (Some rs) = refl

-- one part off the front
module _ (p : ℕ) (q : Part) (x a b rest : List ℕ) (w : x ≡ a ++ b) (i : IsPart p q a) where
  cut : x ++ rest ≡ a ++ (b ++ rest)
  cut = ap (λ (y : List ℕ). y ++ rest) w ∙ append_assoc a b rest

  pub first_reads : Reads p q (length a) (x ++ rest)
  first_reads = subst (Reads p q (length a)) (sym cut) (part_reads p q a (b ++ rest) i)

  pub first_left : drop (length a) (x ++ rest) ≡ b ++ rest
  first_left = ap (drop (length a)) cut ∙ drop_at a (b ++ rest) (length a) refl

pub encoded_left : (qs : List Part) (p : ℕ) (x rest : List ℕ) → Encodes p qs x → NoneLast qs
    → parts_left p (x ++ rest) ≡ option_map (λ rs. qs ++ rs) (parts_left (p + length x) rest)
encoded_left [] p x rest s h =
    let n : p + length x ≡ p = let e = ap length s in omega arith in
    ap (λ (y : List ℕ). parts_left p (y ++ rest)) s ∙ mapped_nil (parts_left p rest)
    ∙ ap (λ (k : ℕ). option_map (λ (rs : List Part). [] ++ rs) (parts_left k rest)) (sym n)
encoded_left (q ∷ qs) p x rest (a, b, w, i, s) h =
    let n : p + length a + length b ≡ p + length x = let e = ap length w in let l = length-append a b in omega arith in
    reads_more p q (length a) (x ++ rest) (first_reads p q x a b rest w i) h.0
    ∙ ap (λ (y : List ℕ). option_map (λ (rs : List Part). q ∷ rs) (parts_left (p + length a) y)) (first_left p q x a b rest w i)
    ∙ ap (option_map (λ (rs : List Part). q ∷ rs)) (encoded_left qs (p + length a) b rest s h.1)
    ∙ mapped_twice q qs (parts_left (p + length a + length b) rest)
    ∙ ap (λ (k : ℕ). option_map (λ (rs : List Part). (q ∷ qs) ++ rs) (parts_left k rest)) n

pub encoded_all : (qs : List Part) (p : ℕ) (x rest : List ℕ) → Encodes p qs x → EndsAtLast qs → parts_left p (x ++ rest) ≡ Some qs
encoded_all [] p x rest s h = absurd h
encoded_all (q ∷ []) p x rest (a, b, w, i, s) h = reads_last p q (length a) (x ++ rest) (first_reads p q x a b rest w i) h
encoded_all (q ∷ r ∷ qs) p x rest (a, b, w, i, s) h =
    reads_more p q (length a) (x ++ rest) (first_reads p q x a b rest w i) h.0
    ∙ ap (λ (y : List ℕ). option_map (λ (rs : List Part). q ∷ rs) (parts_left (p + length a) y)) (first_left p q x a b rest w i)
    ∙ ap (option_map (λ (rs : List Part). q ∷ rs)) (encoded_all (r ∷ qs) (p + length a) b rest s h.1)

-- ---- to the grammar

-- x begins with the parts qs, the last of which is the last of a head
pub record Heads (p : ℕ) (qs : List Part) (x : List ℕ) : Type 0 where
  pub encoded : List ℕ
  pub rest : List ℕ
  pub whole : x ≡ encoded ++ rest
  pub encodes : Encodes p qs encoded
  pub ends : EndsAtLast qs

ends_more : (q : Part) (qs : List Part) → is_last q.code ≡ false → EndsAtLast qs → EndsAtLast (q ∷ qs)
ends_more q [] l e = absurd e
ends_more q (r ∷ qs) l e = (l, e)

heads_last : (p : ℕ) (x : List ℕ) → is_part x ≡ true → is_last (part p x).code ≡ true → Heads p (part p x ∷ []) x
heads_last p x h l =
    let b = part_begins p x h in record {
      encoded = b.front;
      rest = drop (size x) x;
      whole = b.whole;
      encodes = (b.front, [], sym (append-nil b.front), b.is, refl);
      ends = l;
    }

heads_more : (p : ℕ) (x : List ℕ) (qs : List Part) → is_part x ≡ true → is_last (part p x).code ≡ false
    → Heads (p + size x) qs (drop (size x) x) → Heads p (part p x ∷ qs) x
heads_more p x qs h l t =
    let b = part_begins p x h in record {
      encoded = b.front ++ t.encoded;
      rest = t.rest;
      whole = b.whole ∙ ap (λ (y : List ℕ). b.front ++ y) t.whole ∙ sym (append_assoc b.front t.encoded t.rest);
      encodes = (b.front, t.encoded, refl, b.is, subst (λ (n : ℕ). Encodes (p + n) qs t.encoded) (sym b.long) t.encodes);
      ends = ends_more (part p x) qs l t.ends;
    }

mapped_some : (q : Part) (o : Option (List Part)) (qs : List Part) → option_map (λ rs. q ∷ rs) o ≡ Some qs
    → (rs : List Part) × (o ≡ Some rs) × (q ∷ rs ≡ qs)
mapped_some q None qs e = let clash : ◌≡◌ {A = Option (List Part)} None (Some qs) = e in absurd (cc)
mapped_some q (Some rs) qs e = let same : ◌≡◌ {A = Option (List Part)} (Some (q ∷ rs)) (Some qs) = e in (rs, refl, cc)

parts_heads : (n p : ℕ) (x : List ℕ) (qs : List Part) → parts_of n p x ≡ Some qs → Heads p qs x
unfolding parts_of
parts_heads zero p x qs e = let clash : ◌≡◌ {A = Option (List Part)} None (Some qs) = e in absurd (cc)
parts_heads (suc n) p x qs e = elim (cases_Bool (is_part x)) [
  | inl t ↦ elim (cases_Bool (is_last (part p x).code)) [
    | inl l ↦
        let same : ◌≡◌ {A = Option (List Part)} (Some (part p x ∷ [])) (Some qs) =
        sym (cond-true (is_part x) _ _ t ∙ cond-true (is_last (part p x).code) _ _ l) ∙ e in
        let all : part p x ∷ [] ≡ qs = cc in
        subst (λ (rs : List Part). Heads p rs x) all (heads_last p x t l)
    | inr l ↦
        let same = sym (cond-true (is_part x) _ _ t ∙ cond-false (is_last (part p x).code) _ _ l) ∙ e in
        let (rs, f, all) = mapped_some (part p x) (parts_of n (p + size x) (drop (size x) x)) qs same in
        subst (λ (ss : List Part). Heads p ss x) all (heads_more p x rs t l (parts_heads n (p + size x) (drop (size x) x) rs f))
  ]
  | inr f ↦ let clash : ◌≡◌ {A = Option (List Part)} None (Some qs) = sym (cond-false (is_part x) _ _ f) ∙ e in absurd (cc)
]

pub left_heads : (p : ℕ) (x : List ℕ) (qs : List Part) → parts_left p x ≡ Some qs → Heads p qs x
unfolding parts_left
left_heads p x qs e = parts_heads (length x) p x qs e

-- ---- one more part behind some

pub encodes_more : (qs : List Part) (p : ℕ) (x : List ℕ) (q : Part) (a : List ℕ) → Encodes p qs x → IsPart (p + length x) q a
    → Encodes p (qs ++ q ∷ []) (x ++ a)
encodes_more [] p x q a s i =
    let n : p + length x ≡ p = let e = ap length s in omega arith in
    (a, [], ap (λ (y : List ℕ). y ++ a) s ∙ sym (append-nil a), subst (λ (k : ℕ). IsPart k q a) n i, refl)
encodes_more (r ∷ qs) p x q a (b, c, w, j, s) i =
    let n : p + length x ≡ p + length b + length c = let e = ap length w in let l = length-append b c in omega arith in (
      b,
      c ++ a,
      ap (λ (y : List ℕ). y ++ a) w ∙ append_assoc b c a,
      j,
      encodes_more qs (p + length b) c q a s (subst (λ (k : ℕ). IsPart k q a) n i),
    )

pub none_more : (qs : List Part) (q : Part) → NoneLast qs → is_last q.code ≡ false → NoneLast (qs ++ q ∷ [])
none_more [] q h l = (l, tt)
none_more (r ∷ qs) q h l = (h.0, none_more qs q h.1 l)

pub ends_after : (qs : List Part) (q : Part) → NoneLast qs → is_last q.code ≡ true → EndsAtLast (qs ++ q ∷ [])
ends_after [] q h l = l
ends_after (r ∷ qs) q h l = ends_more r (qs ++ q ∷ []) h.0 (ends_after qs q h.1 l)
