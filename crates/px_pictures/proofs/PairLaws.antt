-- Blocks that have meanings, compared pair by pair.
use Rattle.std.proofs.Common.{◌≡◌, ◌↔◌, ℕ, Bool, false, IsTrue, List, [], ◌∷◌, refl, sym, ap₂, ◌∙◌, subst}
use Rattle.std.proofs.Common.{Result, Ok, Err, IfOk, ◌+◌}
use Rattle.px_bytes.specs.declared.Refusal.{Refusal}
use Rattle.px_bytes.specs.declared.Refusal.TheVariants.{Content, OutOfMemory}
use Rattle.px_bytes.specs.Checks.{CountsAllocFailureInBlockBy}
use Rattle.px_iim.specs.Group.{Record}
use Rattle.px_iim.specs.Record.{SaysIim}
use Rattle.px_iim.specs.calls.Reading.{RefusesIim}
use Rattle.px_meaning.specs.Tree.{Meaning}
use Rattle.px_meaning.specs.Says.{SaysExif}
use Rattle.px_tree.specs.Refused.{IsRefused}
use Rattle.px_pictures.specs.declared.faults.MetadataFault.{MetadataFault}
use Rattle.px_pictures.specs.Metadata.{MeanAll}
use Rattle.px_pictures.specs.Same.{PairsAgree}
use Rattle.px_pictures.specs.calls.Judging.{MeanSame, PairsMeanSame}

module _ (M : Type 0) (Says : List ℕ → M → Type 0) where
  abbrev AllMean : List (List ℕ) → Type 0
  AllMean bs = (ms : List M) × MeanAll Says bs ms

  first_of : (b : List ℕ) (bs : List (List ℕ)) (ms : List M) → MeanAll Says (b ∷ bs) ms → ((m : M) × Says b m) × AllMean bs
  first_of b bs [] s = absurd s
  first_of b bs (m ∷ ms) s = ((m, s.0), (ms, s.1))

  -- the first block's meaning, and those of the others
  pub mean_first : (ps bs : List (List ℕ)) (b : List ℕ) → ps ≡ b ∷ bs → AllMean ps → ((m : M) × Says b m) × AllMean bs
  mean_first ps bs b e h = let (ms, s) = subst AllMean e h in first_of b bs ms s

  pub not_same : (P Q : Type 0) → P ↔ Q → (P → ⊥) → IsTrue false ↔ Q
  not_same P Q e differ = (λ t. absurd (cc), λ q. absurd (differ (e.1 q)))

  -- ---- a pair

  pairs : (x y : List ℕ) (xs ys : List (List ℕ)) (ms : List M) → MeanAll Says (x ∷ xs) ms → MeanAll Says (y ∷ ys) ms
      → ((m : M) × Says x m × Says y m) × MeanSame Says xs ys
  pairs x y xs ys [] s t = absurd s
  pairs x y xs ys (m ∷ ms) s t = ((m, s.0, t.0), (ms, s.1, t.1))

  pub same_pair : (ps qs xs ys : List (List ℕ)) (x y : List ℕ) (m : M) → ps ≡ x ∷ xs → qs ≡ y ∷ ys → Says x m → Says y m
      → MeanSame Says ps qs ↔ MeanSame Says xs ys
  same_pair ps qs xs ys x y m e f s t = (
    λ h. let (ms, u, v) = h in (pairs x y xs ys ms (subst (λ z. MeanAll Says z ms) e u) (subst (λ z. MeanAll Says z ms) f v)).1,
    λ h. let (ms, u, v) = h in
        (m ∷ ms, subst (λ z. MeanAll Says z (m ∷ ms)) (sym e) (s, u), subst (λ z. MeanAll Says z (m ∷ ms)) (sym f) (t, v)),
  )

  pub other_pair : ((b : List ℕ) (m n : M) → Says b m → Says b n → m ≡ n) → (ps qs xs ys : List (List ℕ)) (x y : List ℕ) (m n : M)
      → ps ≡ x ∷ xs → qs ≡ y ∷ ys → Says x m → Says y n → (m ≡ n → ⊥) → MeanSame Says ps qs → ⊥
  other_pair one ps qs xs ys x y m n e f s t differ h =
      let (ms, u, v) = h in
      let p = (pairs x y xs ys ms (subst (λ z. MeanAll Says z ms) e u) (subst (λ z. MeanAll Says z ms) f v)).0 in
      differ (one x m p.0 s p.1 ∙ sym (one y n p.0 t p.2))

  -- ---- the blocks that both have

  open_pair : (ps qs xs ys : List (List ℕ)) (x y : List ℕ) → ps ≡ x ∷ xs → qs ≡ y ∷ ys → PairsMeanSame Says ps qs
      → ((m : M) × Says x m × Says y m) × PairsMeanSame Says xs ys
  open_pair ps qs xs ys x y e f h =
      subst (λ z. PairsMeanSame Says (x ∷ xs) z) f (subst (λ z. PairsMeanSame Says z qs) e h)

  pub alike_pair : (ps qs xs ys : List (List ℕ)) (x y : List ℕ) (m : M) → ps ≡ x ∷ xs → qs ≡ y ∷ ys → Says x m → Says y m
      → PairsMeanSame Says ps qs ↔ PairsMeanSame Says xs ys
  alike_pair ps qs xs ys x y m e f s t = (
    λ h. (open_pair ps qs xs ys x y e f h).1,
    λ h. subst (λ z. PairsMeanSame Says z qs) (sym e) (subst (λ z. PairsMeanSame Says (x ∷ xs) z) (sym f) ((m, s, t), h)),
  )

  pub unlike_pair : ((b : List ℕ) (m n : M) → Says b m → Says b n → m ≡ n) → (ps qs xs ys : List (List ℕ)) (x y : List ℕ) (m n : M)
      → ps ≡ x ∷ xs → qs ≡ y ∷ ys → Says x m → Says y n → (m ≡ n → ⊥) → PairsMeanSame Says ps qs → ⊥
  unlike_pair one ps qs xs ys x y m n e f s t differ h =
      let p = (open_pair ps qs xs ys x y e f h).0 in
      differ (one x m p.0 s p.1 ∙ sym (one y n p.0 t p.2))

  pub both_has_meaning : (r : Result Bool MetadataFault) (x y : List ℕ) (m : M) → Says x m
      → IfOk r (λ same. (n : M) × Says y n × (IsTrue same ↔ (m ≡ n)))
      → IfOk r (λ same. (m n : M) × Says x m × Says y n × (IsTrue same ↔ (m ≡ n)))
  both_has_meaning (Ok same) x y m s (n, t, h) = (m, n, s, t, h)
  both_has_meaning (Err e) x y m s h = tt

  -- ---- lists of meanings

  pub mean_one : ((b : List ℕ) (m n : M) → Says b m → Says b n → m ≡ n) → (bs : List (List ℕ)) (ms ns : List M) → MeanAll Says bs ms
      → MeanAll Says bs ns → ms ≡ ns
  mean_one one [] [] [] s t = refl
  mean_one one [] [] (n ∷ ns) s t = absurd t
  mean_one one [] (m ∷ ms) ns s t = absurd s
  mean_one one (b ∷ bs) [] ns s t = absurd s
  mean_one one (b ∷ bs) (m ∷ ms) [] s t = absurd t
  mean_one one (b ∷ bs) (m ∷ ms) (n ∷ ns) s t = ap₂ (λ (x : M) (xs : List M). x ∷ xs) (one b m n s.0 t.0) (mean_one one bs ms ns s.1 t.1)

  -- blocks have the same meanings exactly if the lists of these are equal
  pub same_lists : ((b : List ℕ) (m n : M) → Says b m → Says b n → m ≡ n) → (xs ys : List (List ℕ)) (ms ns : List M)
      → MeanAll Says xs ms → MeanAll Says ys ns → MeanSame Says xs ys ↔ (ms ≡ ns)
  same_lists one xs ys ms ns s t = (
    λ h. let (ks, u, v) = h in mean_one one xs ms ks s u ∙ sym (mean_one one ys ns ks t v),
    λ e. (ms, s, subst (λ z. MeanAll Says ys z) (sym e) t),
  )

module _ (M : Type 0) (Says : List ℕ → M → Type 0) (one : (b : List ℕ) (m n : M) → Says b m → Says b n → m ≡ n) where
  -- the blocks that both have mean the same exactly if their meanings agree
  pub pair_lists : (xs ys : List (List ℕ)) (ms ns : List M) → MeanAll Says xs ms → MeanAll Says ys ns
      → PairsMeanSame Says xs ys ↔ PairsAgree ms ns
  pair_lists [] ys [] ns s t = (λ h. tt, λ h. tt)
  pair_lists [] ys (m ∷ ms) ns s t = absurd s
  pair_lists (x ∷ xs) ys [] ns s t = absurd s
  pair_lists (x ∷ xs) [] (m ∷ ms) [] s t = (λ h. tt, λ h. tt)
  pair_lists (x ∷ xs) [] (m ∷ ms) (n ∷ ns) s t = absurd t
  pair_lists (x ∷ xs) (y ∷ ys) (m ∷ ms) [] s t = absurd t
  pair_lists (x ∷ xs) (y ∷ ys) (m ∷ ms) (n ∷ ns) s t =
      let more = pair_lists xs ys ms ns s.1 t.1 in (
        λ h. (one x m h.0.0 s.0 h.0.1 ∙ sym (one y n h.0.0 t.0 h.0.2), more.0 h.1),
        λ h. ((m, s.0, subst (λ z. Says y z) (sym h.0) t.0), more.1 h.1),
      )

-- ---- the memory of a block that has a meaning

pub exif_alloc_failure : (b : List ℕ) (e : Refusal) (refused old new : ℕ) → ((m : Meaning) × SaysExif b m) → IsRefused b refused e
    → CountsAllocFailureInBlockBy {X = Unit {0}} (Err e) old new → new ≡ old + 1
exif_alloc_failure b (Content cause place) refused old new s h l = absurd (h.no_meaning s.0 s.1)
exif_alloc_failure b OutOfMemory refused old new s h l = l

pub iptc_alloc_failure : (b : List ℕ) (e : Refusal) (refused old new : ℕ) → ((i : Record) × SaysIim b i) → RefusesIim b refused e
    → CountsAllocFailureInBlockBy {X = Unit {0}} (Err e) old new → new ≡ old + 1
iptc_alloc_failure b (Content cause place) refused old new s h l = absurd (h.3 s.0 s.1)
iptc_alloc_failure b OutOfMemory refused old new s h l = l
