-- The tests, chunk by chunk, and the conditions of a legal plan.
use Rattle.std.proofs.Common.{◌≡◌, ℕ, zero, suc, ◌+◌, ◌<◌, ◌≤◌, inl, inr, Bool, true, false, not, ◌&&◌, ◌||◌, nat_le, List, [], ◌∷◌, map}
use Rattle.std.proofs.Common.{length, get_or, refl, sym, ◌∙◌, ap, subst, arith, le-leb}
use Rattle.std.specs.Prelude.{IsSome, is_some, Contains, ◌↔◌, IsTrue, IfOk, Result, Ok, Err}
use Rattle.std.specs.List.{AllByRecursion, IsDistinct, list_any}
use Rattle.std.proofs.lemmas.Bool.{cases_Bool, both_ways, and_parts, and_from, or_cases, leb-true}
use Rattle.std.proofs.lemmas.List.{length-map}
use Rattle.std.proofs.lemmas.Map.Keys.{IsDistinct-cons}
use Rattle.px_bytes.specs.Parts.{limit}
use Rattle.px_bytes.specs.Range.{Range, range, Apart, AllApart, shares, is_free}
use Rattle.px_bytes.specs.lemmas.ApartLaws.{apart_from_test, test_from_apart}
use Rattle.px_meaning.specs.Tree.{Meaning}
use Rattle.px_meaning.specs.Entry.{Rising}
use Rattle.px_meaning.specs.Writable.{IsWritable}
use Rattle.px_layout.specs.declared.chunks.Chunk.{Chunk}
use Rattle.px_layout.specs.Chunks.{same_chunk, chunks}
use Rattle.px_layout.specs.Plans.{Plan, place, plan_ranges, Legal}
use Rattle.px_layout.specs.lemmas.RankLaws.{rank, chunks_rise}
use Rattle.px_layout.specs.lemmas.LineLaws.{same_chunk_true, same_chunk_self, other_chunk}
use Rattle.px_plans.specs.calls.Counted.{IsCount}
use Rattle.px_plans.specs.calls.Judging.{is_placed, all_placed}

abbrev names : List (Chunk × ℕ) → List Chunk
names cs = map (λ c. c.0) cs

-- ---- the chunks differ from one another

ranks_apart : (c : Chunk × ℕ) (cs : List (Chunk × ℕ)) → AllByRecursion (λ u. rank c < u) (map rank cs)
    → AllByRecursion (λ y. same_chunk c.0 y ≡ false) (names cs)
ranks_apart c [] h = tt
ranks_apart c (d ∷ cs) h = (other_chunk c.0 d.0 h.0, ranks_apart c cs h.1)

ranks_distinct : (cs : List (Chunk × ℕ)) → Rising (map rank cs) → IsDistinct same_chunk (names cs)
unfolding IsDistinct
ranks_distinct [] h = tt
ranks_distinct (c ∷ cs) h = (ranks_apart c cs h.0, ranks_distinct cs h.1)

-- ---- being among chunks

list_any_contains : (c : Chunk) (ds : List Chunk) → list_any (same_chunk c) ds ≡ true → Contains ds c
list_any_contains c [] h = absurd (both_ways false refl h)
list_any_contains c (d ∷ ds) h = elim (or_cases (same_chunk c d) (list_any (same_chunk c) ds) h) [
  | inl e ↦ (0, omega arith, sym (same_chunk_true c d e))
  | inr e ↦ let r = list_any_contains c ds e in (suc r.0, (let l = r.1 in omega arith), r.2)
]

list_any_at : (c : Chunk) (ds : List Chunk) (k : ℕ) → k < length ds → get_or ds k c ≡ c → list_any (same_chunk c) ds ≡ true
list_any_at c [] k l e = absurd (omega arith)
list_any_at c (d ∷ ds) zero l e = ap (λ b. b || list_any (same_chunk c) ds) (subst (λ z. same_chunk z d ≡ true) e (same_chunk_self d))
list_any_at c (d ∷ ds) (suc k) l e = elim (cases_Bool (same_chunk c d)) [
  | inl s ↦ ap (λ b. b || list_any (same_chunk c) ds) s
  | inr s ↦ ap (λ b. b || list_any (same_chunk c) ds) s ∙ list_any_at c ds k (omega arith) e
]

module _ (plan : Plan) where
  abbrev at : Chunk × ℕ → Range
  at c = range (place plan c.0) c.1

  abbrev There : Chunk → Type 0
  There c = IsSome (plan.offset c)

  there_at : (c : Chunk) (ds : List Chunk) (k : ℕ) → AllByRecursion There ds → k < length ds → get_or ds k c ≡ c → There c
  there_at c [] k h l e = absurd (omega arith)
  there_at c (d ∷ ds) zero h l e = subst There e h.0
  there_at c (d ∷ ds) (suc k) h l e = there_at c ds k h.1 (omega arith) e

  each_there : (ds es : List Chunk) → ((c : Chunk) → list_any (same_chunk c) ds ≡ true → There c) → AllByRecursion There ds
  each_there [] es f = tt
  each_there (d ∷ ds) es f = (
    f d (ap (λ b. b || list_any (same_chunk d) ds) (same_chunk_self d)),
    each_there ds es (λ c h. f c (elim (cases_Bool (same_chunk c d)) [
      | inl s ↦ ap (λ b. b || list_any (same_chunk c) ds) s
      | inr s ↦ ap (λ b. b || list_any (same_chunk c) ds) s ∙ h
    ])),
  )

  -- ---- the tests, one by one

  record Placing (taken : List Range) (cs : List (Chunk × ℕ)) : Type 0 where
    there : AllByRecursion There (names cs)
    inside : AllByRecursion (λ r. r.start + r.size ≤ plan.length) (map at cs)
    free : AllByRecursion (λ r. is_free taken r ≡ true) (map at cs)
    apart : AllApart (map at cs)

  turned : (r s : Range) → Apart r s → Apart s r
  turned r s a p i j = a p j i

  after : (taken : List Range) (x : Range) (rs : List Range) → AllByRecursion (λ r. is_free (x ∷ taken) r ≡ true) rs
      → AllByRecursion (Apart x) rs × AllByRecursion (λ r. is_free taken r ≡ true) rs
  after taken x [] h = (tt, tt)
  after taken x (r ∷ rs) h =
      let p = and_parts (not (shares r x)) (is_free taken r) h.0 in
      let q = after taken x rs h.1 in
      ((turned r x (apart_from_test r x p.0), q.0), (p.1, q.1))

  before : (taken : List Range) (x : Range) (rs : List Range) → AllByRecursion (Apart x) rs
      → AllByRecursion (λ r. is_free taken r ≡ true) rs → AllByRecursion (λ r. is_free (x ∷ taken) r ≡ true) rs
  before taken x [] a h = tt
  before taken x (r ∷ rs) a h =
      (and_from (not (shares r x)) (is_free taken r) (test_from_apart r x (turned x r a.0)) h.0, before taken x rs a.1 h.1)

  placing : (taken : List Range) (cs : List (Chunk × ℕ)) → all_placed plan taken cs ≡ true → Placing taken cs
  placing taken [] h = record { there = tt; inside = tt; free = tt; apart = tt }
  placing taken (c ∷ cs) h =
      let p = and_parts (is_placed plan taken c) (all_placed plan (at c ∷ taken) cs) h in
      let q = and_parts (is_some (plan.offset c.0) && nat_le (place plan c.0 + c.1) plan.length) (is_free taken (at c)) p.0 in
      let r = and_parts (is_some (plan.offset c.0)) (nat_le (place plan c.0 + c.1) plan.length) q.0 in
      let s = placing (at c ∷ taken) cs p.1 in
      let t = after taken (at c) (map at cs) s.free in
      record { there = (r.0, s.there); inside = (leb-true _ _ r.1, s.inside); free = (q.1, t.1); apart = (t.0, s.apart) }

  stood : (taken : List Range) (cs : List (Chunk × ℕ)) → Placing taken cs → all_placed plan taken cs ≡ true
  stood taken [] s = refl
  stood taken (c ∷ cs) s =
      and_from (is_placed plan taken c) (all_placed plan (at c ∷ taken) cs)
      (and_from (is_some (plan.offset c.0) && nat_le (place plan c.0 + c.1) plan.length) (is_free taken (at c))
      (and_from (is_some (plan.offset c.0)) (nat_le (place plan c.0 + c.1) plan.length) s.there.0 (le-leb _ _ s.inside.0)) s.free.0)
      (stood (at c ∷ taken) cs (record {
        there = s.there.1;
        inside = s.inside.1;
        free = before taken (at c) (map at cs) s.apart.0 s.free.1;
        apart = s.apart.1;
      }))

  all_free : (rs : List Range) → AllByRecursion (λ r. is_free [] r ≡ true) rs
  all_free [] = tt
  all_free (r ∷ rs) = (refl, all_free rs)

-- ---- legal plans

module _ (m : Meaning) (f : IsWritable m) (plan : Plan) (n : ℕ) (count : IsCount n plan.offset) where
  abbrev all : List Chunk
  all = names (chunks m)

  length_all : length all ≡ length (chunks m)
  length_all = length-map (chunks m) (λ (c : Chunk × ℕ). c.0)

  distinct_all : IsDistinct same_chunk all
  distinct_all = ranks_distinct (chunks m) (chunks_rise m f)

  -- a chunk that has an offset is one of those
  pub plan_judged : 8 ≤ plan.length → plan.length ≤ limit → n ≡ length (chunks m) → all_placed plan (range 0 8 ∷ []) (chunks m) ≡ true
      → Legal m plan
  unfolding plan_ranges
  plan_judged least most same h =
      let s = placing plan (range 0 8 ∷ []) (chunks m) h in
      record {
        exactly = λ c. (
          λ p. elim (cases_Bool (list_any (same_chunk c) all)) [
            | inl e ↦ list_any_contains c all e
            | inr e ↦ let l = count.least (c ∷ all) (IsDistinct-cons same_chunk c all (differ c all e) distinct_all) (p, s.there) in
                let k = length_all in absurd (omega arith)
          ],
          λ w. there_at plan c all w.0 s.there w.1 w.2,
        );
        least = least;
        most = most;
        inside = (omega arith, s.inside);
        apart = ((after plan [] (range 0 8) (map (at plan) (chunks m)) s.free).0, s.apart);
      }
    where
      differ : (c : Chunk) (ds : List Chunk) → list_any (same_chunk c) ds ≡ false → AllByRecursion (λ y. same_chunk c y ≡ false) ds
      differ c [] e = tt
      differ c (d ∷ ds) e = elim (cases_Bool (same_chunk c d)) [
        | inl t ↦ absurd (both_ways (list_any (same_chunk c) (d ∷ ds)) e (ap (λ b. b || list_any (same_chunk c) ds) t))
        | inr t ↦ (t, differ c ds (sym (ap (λ b. b || list_any (same_chunk c) ds) t) ∙ e))
      ]

  -- and back
  pub as_many : Legal m plan → n ≡ length (chunks m)
  as_many l =
      let few = count.least all distinct_all (each_there plan all all (λ c h. (l.exactly c).1 (list_any_contains c all h))) in
      let many = count.most all (λ c p. let w = (l.exactly c).0 p in list_any_at c all w.0 w.1 w.2) in
      let k = length_all in omega arith

  pub legal_placed : Legal m plan → all_placed plan (range 0 8 ∷ []) (chunks m) ≡ true
  unfolding plan_ranges
  legal_placed l = stood plan (range 0 8 ∷ []) (chunks m) (record {
    there = each_there plan all all (λ c h. (l.exactly c).1 (list_any_contains c all h));
    inside = l.inside.1;
    free = before plan [] (range 0 8) (map (at plan) (chunks m)) l.apart.0 (all_free plan (map (at plan) (chunks m)));
    apart = l.apart.1;
  })

  -- the verdict
  pub plan_verdict : (b : Bool) → 8 ≤ plan.length → plan.length ≤ limit → n ≡ length (chunks m)
      → b ≡ all_placed plan (range 0 8 ∷ []) (chunks m)
      → (b ≡ true) ↔ Legal m plan
  plan_verdict b least most same e = ((λ h. plan_judged least most same (sym e ∙ h)), (λ l. e ∙ legal_placed l))

  pub plan_verdicts : {E : Type 0} (r : Result Bool E) (cs : List (Chunk × ℕ)) → 8 ≤ plan.length → plan.length ≤ limit → n ≡ length cs
      → cs ≡ chunks m → IfOk r (λ b. b ≡ all_placed plan (range 0 8 ∷ []) cs) → IfOk r (λ b. IsTrue b ↔ Legal m plan)
  plan_verdicts (Ok b) cs least most same is h =
      plan_verdict b least most (same ∙ ap (λ xs. length xs) is) (h ∙ ap (all_placed plan (range 0 8 ∷ [])) is)
  plan_verdicts (Err e) cs least most same is h = h
