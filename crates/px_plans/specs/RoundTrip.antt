-- The round trip: the result of reading a block that was laid out.
use Rattle.std.specs.Prelude.{◌≡◌, ◌+◌, ℕ, Result, Ok, Err}
use Rattle.px_bytes.specs.declared.Refusal.{Refusal}
use Rattle.px_bytes.specs.declared.Refusal.TheVariants.{Content, OutOfMemory}
use Rattle.px_meaning.specs.Tree.{Meaning}

-- The meaning that was read, viewed by `seen`, is the meaning m that was laid out. The only error is out of memory, which means
-- one failed allocation.
abbrev pub ReadsBack : {R : Type 0} → (R → Meaning) → Result R Refusal → Meaning → ℕ → ℕ → Type 0
ReadsBack seen (Ok read) m refused refused_now = (seen read ≡ m) × (refused_now ≡ refused)
ReadsBack seen (Err OutOfMemory) m refused refused_now = refused_now ≡ refused + 1
ReadsBack seen (Err (Content cause place)) m refused refused_now = ⊥
