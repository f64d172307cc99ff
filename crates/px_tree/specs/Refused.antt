-- A block that is refused.
use Rattle.std.specs.Prelude.{◌<◌, ℕ, ◌≤◌, List}
use Rattle.px_bytes.specs.declared.Cause.{Cause}
use Rattle.px_bytes.specs.declared.Refusal.{Refusal}
use Rattle.px_bytes.specs.declared.Refusal.TheVariants.{Content, OutOfMemory}
use Rattle.px_bytes.specs.Parts.{limit}
use Rattle.px_meaning.specs.Tree.{Meaning}
use Rattle.px_meaning.specs.Says.{SaysExif}
use Rattle.px_tree.specs.Checks.{FirstExifFault}
use Rattle.px_tree.specs.Faults.{ExifFault}

-- the fault is the first one, is a fault of the block at an offset of at most the limit, and the block has no meaning
pub record IsFaultyExif (b : List ℕ) (cause : Cause) (place : ℕ) : Type 0 where
  pub first : FirstExifFault b cause place
  pub is_fault : ExifFault b cause place
  pub bounded : place ≤ limit
  pub no_meaning : (m : Meaning) → SaysExif b m → ⊥

-- a refusal of content reports such a fault; out of memory means that an allocation failed, and nothing about the block
abbrev pub IsRefused : List ℕ → ℕ → Refusal → Type 0
IsRefused b refused (Content cause place) = IsFaultyExif b cause place
IsRefused b refused OutOfMemory = 0 < refused
