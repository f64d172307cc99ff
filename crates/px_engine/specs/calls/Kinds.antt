-- A block that has a meaning of its kind.
use Rattle.std.specs.Prelude.{◌≡◌, ℕ, List}
use Rattle.px_engine.specs.declared.kind.BlockKind.{BlockKind}
use Rattle.px_engine.specs.Files.{Said, kind_of_meaning}
use Rattle.px_engine.specs.Input.{HasMeaningAs}

-- the block, read as this kind, has a meaning, which is of this kind
abbrev pub HasMeaningOfKind : BlockKind → List ℕ → Type 0
HasMeaningOfKind k b = (s : Said) × HasMeaningAs k b s × (k ≡ kind_of_meaning s)
