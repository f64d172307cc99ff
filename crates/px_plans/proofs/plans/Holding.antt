-- Chunks that are claimed one after the other, and whether all are legal.
use Rattle.std.proofs.Common.{◌≡◌, ℕ, suc, ◌+◌, ◌<◌, ◌≤◌, Bool, true, false, ◌&&◌, nat_le, Some, None, List, ◌∷◌, drop, length, get_or}
use Rattle.std.proofs.Common.{sym, ◌∙◌, ap, ap₂, subst, arith, drop-cons, le-leb}
use Rattle.std.specs.Prelude.{is_some, unwrap_or, IfOk, Result, Ok, Err}
use Rattle.std.proofs.lemmas.Bool.{lt-leb}
use Rattle.std.proofs.lemmas.List.{drop_all}
use Rattle.px_bytes.specs.Range.{Range, range, is_free, Agrees}
use Rattle.px_layout.specs.declared.chunks.Chunk.{Chunk}
use Rattle.px_layout.specs.Plans.{Plan, place}
use Rattle.px_plans.specs.calls.Judging.{is_placed, all_placed}

module _ (plan : Plan) where
  -- some ranges are claimed, and the chunks xs are legal with them exactly if b
  abbrev pub Left : List (Chunk × ℕ) → List (ℕ × ℕ) → Bool → Type 0
  Left xs claimed b = (now : List Range) × Agrees now claimed × (all_placed plan now xs ≡ b)

  -- the result of one call: whether the chunk is legal, and what is claimed then
  abbrev pub IsClaimed : Bool → Chunk × ℕ → List Range → List (ℕ × ℕ) → Type 0
  IsClaimed b c taken new = (b ≡ is_placed plan taken c) × (b ≡ true → Agrees (range (place plan c.0) c.1 ∷ taken) new)

  -- ---- one chunk

  pub not_placed : (c : Chunk × ℕ) (taken : List Range) (new : List (ℕ × ℕ)) → plan.offset c.0 ≡ None → IsClaimed false c taken new
  not_placed c taken new e = (
    ap (λ o. is_some o && nat_le (unwrap_or o 0 + c.1) plan.length && is_free taken (range (unwrap_or o 0) c.1)) (sym e),
    λ q. cc,
  )

  pub chunk_beyond : (c : Chunk × ℕ) (x : ℕ) (taken : List Range) (new : List (ℕ × ℕ)) → plan.offset c.0 ≡ Some x → plan.length < x + c.1
      → IsClaimed false c taken new
  chunk_beyond c x taken new e l = (
    ap (λ b. b && is_free taken (range x c.1)) (sym (lt-leb (x + c.1) plan.length l))
        ∙ ap (λ o. is_some o && nat_le (unwrap_or o 0 + c.1) plan.length && is_free taken (range (unwrap_or o 0) c.1)) (sym e),
    λ q. cc,
  )

  pub chunk_within : {E : Type 0} (c : Chunk × ℕ) (x : ℕ) (taken : List Range) (new : List (ℕ × ℕ)) → plan.offset c.0 ≡ Some x
      → x + c.1 ≤ plan.length → (r : Result Bool E)
      → IfOk r (λ free. (free ≡ is_free taken (range x c.1)) × (free ≡ true → Agrees (range x c.1 ∷ taken) new))
      → IfOk r (λ free. IsClaimed free c taken new)
  chunk_within c x taken new e l (Ok free) h = (
    h.0 ∙ ap (λ b. b && is_free taken (range x c.1)) (sym (le-leb (x + c.1) plan.length l))
        ∙ ap (λ o. is_some o && nat_le (unwrap_or o 0 + c.1) plan.length && is_free taken (range (unwrap_or o 0) c.1)) (sym e),
    λ q. subst (λ y. Agrees (range y c.1 ∷ taken) new) (ap (λ o. unwrap_or o 0) (sym e)) (h.1 q),
  )
  chunk_within c x taken new e l (Err q) h = h

  -- ---- chunk by chunk

  here : (cs : List (Chunk × ℕ)) (i : ℕ) (c : Chunk × ℕ) (d : Chunk × ℕ) → i < length cs → c ≡ get_or cs i d → drop i cs ≡ c ∷ drop
      (i + 1) cs
  here cs i c d l e = let k : suc i ≡ i + 1 = omega arith in
      drop-cons cs i d l ∙ ap₂ (λ y ys. y ∷ ys) (sym e) (ap (λ j. drop j cs) k)

  -- the next chunk is legal, and claimed
  pub left_more : (cs : List (Chunk × ℕ)) (i : ℕ) (c d : Chunk × ℕ) (old new : List (ℕ × ℕ)) (b free : Bool) → i < length cs
      → c ≡ get_or cs i d
      → free ≡ true → ((taken : List Range) → Agrees taken old → IsClaimed free c taken new) → Left (drop i cs) old b
      → Left (drop (i + 1) cs) new b
  left_more cs i c d old new b free l e t f w =
      let g = f w.0 w.1 in (
        range (place plan c.0) c.1 ∷ w.0,
        g.1 t,
        ap (λ a. a && all_placed plan (range (place plan c.0) c.1 ∷ w.0) (drop (i + 1) cs)) (sym t ∙ g.0)
            ∙ sym (ap (all_placed plan w.0) (here cs i c d l e)) ∙ w.2,
      )

  -- the next chunk isn't legal
  pub left_stop : (cs : List (Chunk × ℕ)) (i : ℕ) (c d : Chunk × ℕ) (old new : List (ℕ × ℕ)) (b free : Bool) → i < length cs
      → c ≡ get_or cs i d
      → free ≡ false → ((taken : List Range) → Agrees taken old → IsClaimed free c taken new) → Left (drop i cs) old b → false ≡ b
  left_stop cs i c d old new b free l e t f w =
      ap (λ a. a && all_placed plan (range (place plan c.0) c.1 ∷ w.0) (drop (i + 1) cs)) (sym t ∙ (f w.0 w.1).0)
      ∙ sym (ap (all_placed plan w.0) (here cs i c d l e)) ∙ w.2

  -- no chunk is left
  pub left_done : (cs : List (Chunk × ℕ)) (i : ℕ) (claimed : List (ℕ × ℕ)) (b : Bool) → length cs ≤ i → Left (drop i cs) claimed b → true ≡ b
  left_done cs i claimed b l w = sym (ap (all_placed plan w.0) (drop_all i cs l)) ∙ w.2
