-- The headline: two files, and the normal forms that are written for them.
-- Example: f and g are the two blocks of the example in `Says`. Then m and n are the same bytes, those of f, since f is its own form.
use Rattle.std.specs.Prelude.{◌≡◌, ◌↔◌, ℕ, Bool, IsTrue, List, Option, Some, Ok}
use Rattle.std.specs.Io.KnownBytes.{Appends}
use Rattle.px_engine.specs.Files.{Said, Says, normal}
use Rattle.px_engine.specs.Slices.{IsFormOf}
use Rattle.px_engine.specs.Input.{HasMeaning}
use Rattle.px_engine.specs.Runs.{Normalises, Compares}

-- as a file n has the meaning s and no other, and n is the normal form of its meaning
pub record IsItsOwn (n : List ℕ) (s : Said) : Type 0 where
  pub means : HasMeaning n s
  pub alone : (t : Said) → Says n t → t ≡ s
  pub again : (t : Said) → Says n t → normal t ≡ n

-- For two files f and g the bytes m and n were written.
pub record Headline (f g m n : List ℕ) : Type 0 where
  -- the meanings: each file is accepted only with the meaning that the layout of its bytes gives, and it has only that one
  pub first : Said
  pub second : Said
  pub first_form : IsFormOf f first m
  pub second_form : IsFormOf g second n
  pub first_alone : (t : Said) → Says f t → t ≡ first
  pub second_alone : (t : Said) → Says g t → t ≡ second
  -- the meanings are equal exactly if the bytes are
  pub decides : (m ≡ n) ↔ (first ≡ second)
  -- what was written is accepted with its meaning unchanged, and normalises to itself
  pub first_again : IsItsOwn m first
  pub second_again : IsItsOwn n second

-- ---- the headline of runs

-- Two runs that normalise two files and succeed, whatever their devices took before: each writer took the normal form, and all
-- of the above is true of the forms.
abbrev pub RunsDecide : Type 0
RunsDecide = (f g : List ℕ) (i j : ℕ) (old new other_old other_new : Option (List ℕ)) → Normalises (Ok i) (Some f) old new
    → Normalises (Ok j) (Some g) other_old other_new
    → (m n : List ℕ) × Appends old new m × Appends other_old other_new n × Headline f g m n

-- Comparing two files that have normal forms returns whether these are equal.
abbrev pub ComparingDecides : Type 0
ComparingDecides = (f g m n : List ℕ) (same : Bool) → Headline f g m n → Compares (Ok same) (Some f) (Some g) → IsTrue same ↔ (m ≡ n)
