-- What is wrong with marks in a row, and where.
use Rattle.std.specs.Prelude.{◌≡◌, ◌≢◌, ◌<◌, ℕ, List, ◌++◌, length, drop}
use Rattle.std.specs.List.{AllByRecursion}
use Rattle.px_xmp_marks.specs.Marks.{IsMark, AreMarks}
use Rattle.px_xmp_markup.specs.declared.faults.AttributeCause.{AttributeCause}
use Rattle.px_xmp_markup.specs.declared.faults.AttributeCause.TheVariants.{NoMark, AttributeTwice}
use Rattle.px_xmp_markup.specs.Distinct.{HasDistinct, HasRepeated}

-- what is wrong with octets: no mark is at the start, or one that has an attribute twice
abbrev pub IsFaulty : AttributeCause → List ℕ → Type 0
IsFaulty NoMark x = (m rest : List ℕ) → IsMark m rest → x ≢ m ++ rest
IsFaulty AttributeTwice x = (m rest : List ℕ) × IsMark m rest × (x ≡ m ++ rest) × HasRepeated m

-- the first fault: the octets before it are marks in a row, each with each attribute once
pub record IsAttributeFault (x : List ℕ) (c : AttributeCause) (n : ℕ) : Type 0 where
  pub within : n < length x
  pub marks : List (List ℕ)
  pub before : AreMarks marks x (drop n x)
  pub distinct : AllByRecursion HasDistinct marks
  pub wrong : IsFaulty c (drop n x)
