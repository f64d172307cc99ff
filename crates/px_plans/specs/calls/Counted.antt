-- How many chunks have an offset.
use Rattle.std.specs.Prelude.{◌≡◌, ℕ, ◌≤◌, true, Option, List, length, IsSome}
use Rattle.std.specs.List.{AllByRecursion, IsDistinct, list_any}
use Rattle.px_layout.specs.declared.chunks.Chunk.{Chunk}
use Rattle.px_layout.specs.Chunks.{same_chunk}

-- n chunks have an offset: no more of them differ from one another, and no fewer list all of them
pub record IsCount (n : ℕ) (offset : Chunk → Option ℕ) : Type 0 where
  pub least : (cs : List Chunk) → IsDistinct same_chunk cs → AllByRecursion (λ c. IsSome (offset c)) cs → length cs ≤ n
  pub most : (cs : List Chunk) → ((c : Chunk) → IsSome (offset c) → list_any (same_chunk c) cs ≡ true) → n ≤ length cs
