-- Chunks placed one after the other.
use Rattle.std.proofs.Common.{◌≡◌, ℕ, zero, suc, ◌+◌, ◌<◌, ◌≤◌, inl, inr, Bool, true, false, Option, Some, None, Err, List, [], ◌∷◌, ◌++◌}
use Rattle.std.proofs.Common.{length, take, get_or, refl, sym, ◌∙◌, ap, ap₂, subst, arith}
use Rattle.std.proofs.Math.Path.{fun_ext}
use Rattle.std.specs.Prelude.{IsSome, if◌then◌else◌}
use Rattle.std.specs.List.{slice_get}
use Rattle.std.proofs.lemmas.Bool.{cond-true, cond-false, cases_Bool, both_ways}
use Rattle.std.proofs.lemmas.Option.{slice_get-get_or}
use Rattle.px_bytes.specs.declared.WriteRefusal.{WriteRefusal}
use Rattle.px_bytes.specs.declared.WriteRefusal.TheVariants.{NormalTooLong, OutOfMemory, WriteFailed}
use Rattle.px_bytes.specs.Parts.{limit}
use Rattle.px_bytes.specs.calls.Writing.{CountsAllocFailureInWriteBy}
use Rattle.px_meaning.specs.Tree.{Meaning}
use Rattle.px_meaning.specs.Writable.{IsWritable}
use Rattle.px_layout.specs.declared.chunks.Chunk.{Chunk}
use Rattle.px_layout.specs.Chunks.{same_chunk, chunks}
use Rattle.px_layout.specs.Plans.{Plan, Legal}
use Rattle.px_layout.specs.Normal.{even, running, padded_size, normal_plan, normal_exif}
use Rattle.px_layout.specs.lemmas.LineLaws.{same_chunk_true, length_normal, legal_in_line}
use Rattle.px_plans.specs.calls.Planned.{with_chunk, with_length}
use Rattle.px_plans.specs.calls.PlanningNormal.{Placed, NextResult, AllResult, PlanResult}

abbrev or_else : Option ℕ → Option ℕ → Option ℕ
or_else None y = y
or_else (Some x) y = Some x

or_none : (x : Option ℕ) → or_else x None ≡ x
or_none None = refl
or_none (Some x) = refl

or_some : (x y : Option ℕ) → IsSome x → or_else x y ≡ x
or_some None y h = absurd (both_ways false refl h)
or_some (Some x) y h = refl

padded_more : (cs : List (Chunk × ℕ)) (c : Chunk × ℕ) → padded_size (cs ++ c ∷ []) ≡ padded_size cs + even c.1
padded_more [] c = omega arith
padded_more (d ∷ cs) c = let e = padded_more cs c in omega arith

-- the last of a line
running_more : (y : ℕ) (cs : List (Chunk × ℕ)) (c : Chunk × ℕ) (d : Chunk)
    → running y (cs ++ c ∷ []) d ≡ or_else (running y cs d) (if same_chunk c.0 d then Some (y + padded_size cs) else None)
running_more y [] c d = ap (λ n. if same_chunk c.0 d then Some n else None) (omega arith)
running_more y (b ∷ cs) c d = elim (cases_Bool (same_chunk b.0 d)) [
  | inl e ↦ cond-true (same_chunk b.0 d) (Some y) (running (y + even b.1) (cs ++ c ∷ []) d) e
      ∙ ap (λ o. or_else o (if same_chunk c.0 d then Some (y + padded_size (b ∷ cs)) else None))
      (sym (cond-true (same_chunk b.0 d) (Some y) (running (y + even b.1) cs d) e))
  | inr e ↦ cond-false (same_chunk b.0 d) (Some y) (running (y + even b.1) (cs ++ c ∷ []) d) e
      ∙ running_more (y + even b.1) cs c d
      ∙ ap₂ (λ o n. or_else o (if same_chunk c.0 d then Some n else None)) (sym
      (cond-false (same_chunk b.0 d) (Some y) (running (y + even b.1) cs d) e)) (omega arith)
]

-- the effect of placing a chunk, whether it was placed already or not
offset_effect : (old new : Plan) (c : Chunk) (x : ℕ) (placed : Bool) → (placed ≡ true → old.offset c ≡ None)
    → (placed ≡ false → IsSome (old.offset c)) → new ≡ (if placed then with_chunk old c x else old)
    → (d : Chunk) → new.offset d ≡ or_else (old.offset d) (if same_chunk c d then Some x else None)
offset_effect old new c x true none some e d = ap (λ (p : Plan). p.offset d) e ∙ elim (cases_Bool (same_chunk c d)) [
  | inl s ↦ cond-true (same_chunk c d) (Some x) (old.offset d) s
      ∙ ap₂ or_else (sym (ap old.offset (sym (same_chunk_true c d s)) ∙ none refl)) (sym (cond-true (same_chunk c d) (Some x) None s))
  | inr s ↦ cond-false (same_chunk c d) (Some x) (old.offset d) s
      ∙ sym (or_none (old.offset d)) ∙ ap (or_else (old.offset d)) (sym (cond-false (same_chunk c d) (Some x) None s))
]
offset_effect old new c x false none some e d = ap (λ (p : Plan). p.offset d) e ∙ elim (cases_Bool (same_chunk c d)) [
  | inl s ↦ sym (or_some (old.offset d) (if same_chunk c d then Some x else None)
      (subst (λ z. IsSome (old.offset z)) (same_chunk_true c d s) (some refl)))
  | inr s ↦ sym (or_none (old.offset d)) ∙ ap (or_else (old.offset d)) (sym (cond-false (same_chunk c d) (Some x) None s))
]

-- one more chunk
pub next_placed : (old new : Plan) (c : Chunk) (size x end : ℕ) (placed : Bool) → end ≡ x + even size → end ≤ limit
    → (placed ≡ true → old.offset c ≡ None) → (placed ≡ false → IsSome (old.offset c))
    → new ≡ (if placed then with_chunk old c x else old) → (cs : List (Chunk × ℕ)) → Placed old x cs → Placed new end (cs ++ (c, size) ∷ [])
next_placed old new c size x end placed ends most none some e cs h = record {
  ends = let p = padded_more cs (c, size) in let q = h.ends in omega arith;
  most = most;
  each = λ d. offset_effect old new c x placed none some e d
      ∙ ap₂ (λ o n. or_else o (if same_chunk c d then Some n else None)) (h.each d) h.ends
      ∙ sym (running_more 8 cs (c, size) d);
}

-- the line so far, and the whole
pub part_fits : (cs : List (Chunk × ℕ)) (i : ℕ) (c : Chunk × ℕ) → slice_get cs i ≡ Some c
    → padded_size (take i cs) + even c.1 ≤ padded_size cs
part_fits [] i c e = cc
part_fits (d ∷ cs) zero c e = let q : c ≡ d = cc in let r = ap (λ (x : Chunk × ℕ). even x.1) q in omega arith
part_fits (d ∷ cs) (suc i) c e = let h = part_fits cs i c e in omega arith

-- all of them
pub placed_planned : (m : Meaning) → IsWritable m → (p q : Plan) (end : ℕ) → Placed p end (chunks m) → q ≡ with_length p end
    → (q ≡ normal_plan m) × (length (normal_exif m) ≤ limit) × Legal m q
unfolding normal_plan
placed_planned m f p q end h e =
    let n : length (normal_exif m) ≡ (normal_plan m).length = length_normal m f in
    let same : q ≡ normal_plan m = e ∙ ap₂ make h.ends (fun_ext h.each) in
    let fits : length (normal_exif m) ≤ limit = let s = h.ends in let t = h.most in omega arith in
    (same, fits, subst (Legal m) (sym same) (legal_in_line m f fits))
  where
    make : ℕ → (Chunk → Option ℕ) → Plan
    make n o = record { length = n; offset = o }

-- if the chunk at i doesn't fit any more, they are too long
pub placed_stopped : (e : WriteRefusal) (old new : Plan) (x i : ℕ) (cs : List (Chunk × ℕ)) (c d : Chunk × ℕ) → Placed old x (take i cs)
    → i < length cs → c ≡ get_or cs i d → NextResult (Err e) old new x c → AllResult (Err e) new cs
placed_stopped NormalTooLong old new x i cs c d p l q h =
    let f = part_fits cs i (get_or cs i d) (slice_get-get_or cs i d l) in
    let s = ap (λ (z : Chunk × ℕ). even z.1) q in
    let t = p.ends in omega arith
placed_stopped OutOfMemory old new x i cs c d p l q h = tt
placed_stopped WriteFailed old new x i cs c d p l q h = h

pub plan_refused : (m : Meaning) → IsWritable m → (e : WriteRefusal) (plan : Plan) (cs : List (Chunk × ℕ)) → cs ≡ chunks m
    → AllResult (Err e) plan cs → PlanResult (Err e) m
unfolding normal_plan
plan_refused m f NormalTooLong plan cs s h =
    let n : length (normal_exif m) ≡ (normal_plan m).length = length_normal m f in
    let t = ap padded_size s in omega arith
plan_refused m f OutOfMemory plan cs s h = tt
plan_refused m f WriteFailed plan cs s h = h

-- the failed allocations of a refusal, if none failed before
pub write_alloc_failure : (X Y : Type 0) (e : WriteRefusal) (a b c : ℕ) → b ≡ a → CountsAllocFailureInWriteBy {X = X} (Err e) b c
    → CountsAllocFailureInWriteBy {X = Y} (Err e) a c
write_alloc_failure X Y NormalTooLong a b c e h = h ∙ e
write_alloc_failure X Y OutOfMemory a b c e h = h ∙ ap (λ (n : ℕ). n + 1) e
write_alloc_failure X Y WriteFailed a b c e h = h ∙ e
