-- One more chunk, and the number of chunks.
use Rattle.std.proofs.Common.{◌≡◌, ℕ, suc, ◌+◌, ◌≤◌, inl, inr, true, false, Option, Some, None, List, [], ◌∷◌, length, refl, sym, ◌∙◌, ap}
use Rattle.std.proofs.Common.{subst, arith, ◌||◌}
use Rattle.std.proofs.Math.Path.{fun_ext}
use Rattle.std.specs.Prelude.{IsSome, Result, Ok, Err, OnOk, OnErr, if◌then◌else◌}
use Rattle.std.specs.List.{AllByRecursion, IsDistinct, list_any}
use Rattle.std.proofs.lemmas.Bool.{cond-true, cond-false, cases_Bool, both_ways, or_cases, false_from_ne_true}
use Rattle.std.proofs.lemmas.Map.Keys.{IsDistinct-head, IsDistinct-tail, IsDistinct-cons}
use Rattle.px_layout.specs.declared.chunks.Chunk.{Chunk}
use Rattle.px_layout.specs.Chunks.{same_chunk}
use Rattle.px_layout.specs.lemmas.LineLaws.{same_chunk_true, same_chunk_self}
use Rattle.px_plans.specs.calls.Counted.{IsCount}

module _ (k : Chunk) where
  -- the chunks that aren't k
  abbrev without : List Chunk → List Chunk
  without [] = []
  without (c ∷ cs) = if same_chunk k c then without cs else c ∷ without cs

  gone : (c : Chunk) (cs : List Chunk) → same_chunk k c ≡ true → without (c ∷ cs) ≡ without cs
  gone c cs e = cond-true (same_chunk k c) (without cs) (c ∷ without cs) e

  stays : (c : Chunk) (cs : List Chunk) → same_chunk k c ≡ false → without (c ∷ cs) ≡ c ∷ without cs
  stays c cs e = cond-false (same_chunk k c) (without cs) (c ∷ without cs) e

  each_without : (P Q : Chunk → Type 0) → ((c : Chunk) → same_chunk k c ≡ false → P c → Q c) → (cs : List Chunk) → AllByRecursion P cs
      → AllByRecursion Q (without cs)
  each_without P Q f [] h = tt
  each_without P Q f (c ∷ cs) h = elim (cases_Bool (same_chunk k c)) [
    | inl e ↦ subst (AllByRecursion Q) (sym (gone c cs e)) (each_without P Q f cs h.1)
    | inr e ↦ subst (AllByRecursion Q) (sym (stays c cs e)) (f c e h.0, each_without P Q f cs h.1)
  ]

  distinct_without : (cs : List Chunk) → IsDistinct same_chunk cs → IsDistinct same_chunk (without cs)
  distinct_without [] h = h
  distinct_without (c ∷ cs) h = elim (cases_Bool (same_chunk k c)) [
    | inl e ↦ subst (IsDistinct same_chunk) (sym (gone c cs e)) (distinct_without cs (IsDistinct-tail same_chunk c cs h))
    | inr e ↦ subst (IsDistinct same_chunk) (sym (stays c cs e)) (IsDistinct-cons same_chunk c (without cs)
        (each_without (λ y. same_chunk c y ≡ false) (λ y. same_chunk c y ≡ false) (λ y _ g. g) cs (IsDistinct-head same_chunk c cs h))
        (distinct_without cs (IsDistinct-tail same_chunk c cs h)))
  ]

  all_stay : (cs : List Chunk) → AllByRecursion (λ y. same_chunk k y ≡ false) cs → length (without cs) ≡ length cs
  all_stay [] h = refl
  all_stay (c ∷ cs) h = ap (λ xs. length xs) (stays c cs h.0) ∙ ap suc (all_stay cs h.1)

  -- of chunks that differ, at most one is k
  one_less : (cs : List Chunk) → IsDistinct same_chunk cs → length cs ≤ length (without cs) + 1
  one_less [] h = omega arith
  one_less (c ∷ cs) h = elim (cases_Bool (same_chunk k c)) [
    | inl e ↦ let q = ap (λ xs. length xs) (gone c cs e) in
        let s = all_stay cs (subst (λ z. AllByRecursion (λ y. same_chunk z y ≡ false) cs) (sym (same_chunk_true k c e))
        (IsDistinct-head same_chunk c cs h)) in omega arith
    | inr e ↦ let q = ap (λ xs. length xs) (stays c cs e) in let s = one_less cs (IsDistinct-tail same_chunk c cs h) in omega arith
  ]

  no_more : (cs : List Chunk) → length (without cs) ≤ length cs
  no_more [] = omega arith
  no_more (c ∷ cs) = elim (cases_Bool (same_chunk k c)) [
    | inl e ↦ let q = ap (λ xs. length xs) (gone c cs e) in let s = no_more cs in omega arith
    | inr e ↦ let q = ap (λ xs. length xs) (stays c cs e) in let s = no_more cs in omega arith
  ]

  -- if k is among the chunks, the others are fewer
  fewer : (cs : List Chunk) → list_any (same_chunk k) cs ≡ true → length (without cs) + 1 ≤ length cs
  fewer [] h = cc
  fewer (c ∷ cs) h = elim (cases_Bool (same_chunk k c)) [
    | inl e ↦ let q = ap (λ xs. length xs) (gone c cs e) in let s = no_more cs in omega arith
    | inr e ↦ let q = ap (λ xs. length xs) (stays c cs e) in
        elim (or_cases (same_chunk k c) (list_any (same_chunk k) cs) h) [
          | inl t ↦ absurd (both_ways (same_chunk k c) e t)
          | inr t ↦ let s = fewer cs t in omega arith
        ]
  ]

  still : (c : Chunk) (cs : List Chunk) → same_chunk k c ≡ false → list_any (same_chunk c) cs ≡ true
      → list_any (same_chunk c) (without cs) ≡ true
  still c [] n h = h
  still c (d ∷ cs) n h = elim (cases_Bool (same_chunk k d)) [
    | inl e ↦ subst (λ xs. list_any (same_chunk c) xs ≡ true) (sym (gone d cs e))
        (still c cs n (elim (or_cases (same_chunk c d) (list_any (same_chunk c) cs) h) [
          | inl t ↦ absurd (both_ways (same_chunk k c) n (subst (λ z. same_chunk k z ≡ true) (sym (same_chunk_true c d t)) e))
          | inr t ↦ t
        ]))
    | inr e ↦ subst (λ xs. list_any (same_chunk c) xs ≡ true) (sym (stays d cs e)) (elim (cases_Bool (same_chunk c d)) [
      | inl t ↦ ap (λ b. b || list_any (same_chunk c) (without cs)) t
      | inr t ↦ ap (λ b. b || list_any (same_chunk c) (without cs)) t
          ∙ still c cs n (elim (or_cases (same_chunk c d) (list_any (same_chunk c) cs) h) [
            | inl u ↦ absurd (both_ways (same_chunk c d) t u)
            | inr u ↦ u
          ])
    ])
  ]

-- no chunk
pub count_none : (f : Chunk → Option ℕ) → ((c : Chunk) → f c ≡ None) → IsCount 0 f
count_none f none = record {
  least = least;
  most = λ cs h. omega arith;
}
  where
    least : (cs : List Chunk) → IsDistinct same_chunk cs → AllByRecursion (λ c. IsSome (f c)) cs → length cs ≤ 0
    least [] d h = omega arith
    least (c ∷ cs) d h = absurd (both_ways false refl (subst (λ (o : Option ℕ). IsSome o) (none c) h.0))

-- one more
pub count_more : (n : ℕ) (f g : Chunk → Option ℕ) (k : Chunk) (x : ℕ) → IsCount n f → f k ≡ None
    → ((c : Chunk) → g c ≡ (if same_chunk k c then Some x else f c)) → IsCount (n + 1) g
count_more n f g k x is none more = record {
  least = λ cs d h.
      let s = one_less k cs d in
      let t = is.least (without k cs) (distinct_without k cs d) (each_without k (λ c. IsSome (g c)) (λ c. IsSome (f c))
      (λ c e p. subst (λ (o : Option ℕ). IsSome o) (more c ∙ cond-false (same_chunk k c) (Some x) (f c) e) p) cs h) in
      omega arith;
  most = λ cs h.
      let s = fewer k cs (h k (subst (λ (o : Option ℕ). IsSome o) (sym (more k ∙ cond-true (same_chunk k k) (Some x) (f k)
      (same_chunk_self k))) refl)) in
      let t = is.most (without k cs) (λ c p. let e : same_chunk k c ≡ false = differs c p in
      still k c cs e (h c (subst (λ (o : Option ℕ). IsSome o) (sym (more c ∙ cond-false (same_chunk k c) (Some x) (f c) e)) p))) in
      omega arith;
}
  where
    differs : (c : Chunk) → IsSome (f c) → same_chunk k c ≡ false
    differs c p =
        false_from_ne_true (same_chunk k c) (λ e. both_ways false refl (subst (λ (o : Option ℕ). IsSome o)
        (ap f (sym (same_chunk_true k c e)) ∙ none) p))

-- one more, if the number can grow
pub count_put : {A E : Type 0} (r : Result A E) (n m : ℕ) (f g : Chunk → Option ℕ) (k : Chunk) (x : ℕ) → IsCount n f → f k ≡ None
    → OnOk r ((c : Chunk) → g c ≡ (if same_chunk k c then Some x else f c)) →
    OnErr r ((c : Chunk) → g c ≡ f c) → OnOk r (m ≡ n + 1) → OnErr r (m ≡ n) → IsCount m g
count_put (Ok a) n m f g k x is none more same size kept = subst (λ (j : ℕ). IsCount j g) (sym size) (count_more n f g k x is none more)
count_put (Err e) n m f g k x is none more same size kept =
    subst (λ (j : ℕ). IsCount j g) (sym kept) (subst (λ (h : Chunk → Option ℕ). IsCount n h) (fun_ext (λ (c : Chunk). sym (same c))) is)
