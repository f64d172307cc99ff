-- Whether the chunks of a plan have legal offsets, chunk by chunk.
use Rattle.std.specs.Prelude.{ℕ, ◌+◌, nat_le, Bool, true, ◌&&◌, is_some, List, [], ◌∷◌}
use Rattle.px_bytes.specs.Range.{Range, range, is_free}
use Rattle.px_layout.specs.declared.chunks.Chunk.{Chunk}
use Rattle.px_layout.specs.Plans.{Plan, place}

module _ (plan : Plan) where
  -- the chunk has an offset, is inside the plan's length, and shares no byte with the list
  abbrev pub is_placed : List Range → Chunk × ℕ → Bool
  is_placed taken c = is_some (plan.offset c.0) && nat_le (place plan c.0 + c.1) plan.length && is_free taken (range (place plan c.0) c.1)

  -- and each of the chunks, apart from those before it too
  abbrev pub all_placed : List Range → List (Chunk × ℕ) → Bool
  all_placed taken [] = true
  all_placed taken (c ∷ cs) = is_placed taken c && all_placed (range (place plan c.0) c.1 ∷ taken) cs
