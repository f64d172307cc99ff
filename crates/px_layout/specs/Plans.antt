-- Plans: the offset of each chunk, and which plans are legal. TIFF 6.0 section 2 leaves offsets free; section 7, "No Duplicate
-- Pointers".
-- Example: for these two chunks, 30 and 10 bytes, the plan with the offsets 8 and 38 and the length 48 is legal. With 37 in place of
-- 38 it isn't, since the byte at 37 would be of both.
use Rattle.std.specs.Prelude.{ℕ, ◌+◌, ◌≤◌, ◌↔◌, Option, unwrap_or, List, ◌∷◌, map, Contains, IsSome}
use Rattle.std.specs.List.{AllByRecursion}
use Rattle.px_bytes.specs.Parts.{limit}
use Rattle.px_bytes.specs.Range.{Range, range, AllApart}
use Rattle.px_meaning.specs.Tree.{Meaning}
use Rattle.px_layout.specs.declared.chunks.Chunk.{Chunk}
use Rattle.px_layout.specs.Chunks.{chunks}

-- A length, and a finite map from chunks to offsets.
pub record Plan : Type 0 where
  pub length : ℕ
  pub offset : Chunk → Option ℕ

-- the offset of a chunk; 0 if it has none
abbrev pub place : Plan → Chunk → ℕ
place plan c = unwrap_or (plan.offset c) 0

-- the ranges of the header and of each chunk
unfoldable pub plan_ranges : Meaning → Plan → List Range
plan_ranges m plan = range 0 8 ∷ map (λ c. range (place plan c.0) c.1) (chunks m)

-- the plan has exactly the meaning's chunks, is no shorter than the header and no longer than the limit, each chunk lies
-- within its length, and no two chunks share a byte, nor one and the header
pub record Legal (m : Meaning) (plan : Plan) : Type 0 where
  pub exactly : (c : Chunk) → IsSome (plan.offset c) ↔ Contains (map (λ x. x.0) (chunks m)) c
  pub least : 8 ≤ plan.length
  pub most : plan.length ≤ limit
  pub inside : AllByRecursion (λ r. r.start + r.size ≤ plan.length) (plan_ranges m plan)
  pub apart : AllApart (plan_ranges m plan)
