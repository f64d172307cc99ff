-- What reading and judging the second of two files returns, if s is the meaning of the first.
use Rattle.std.specs.Prelude.{◌≡◌, ◌↔◌, ℕ, Bool, IsTrue, List, Option, Result, Ok, Err}
use Rattle.px_bytes.specs.Devices.{Calls}
use Rattle.px_engine.specs.declared.error.CompareFault.{CompareFault}
use Rattle.px_engine.specs.declared.error.Side.TheVariants.{Second}
use Rattle.px_engine.specs.Files.{Said}
use Rattle.px_engine.specs.Input.{HasMeaning, IsRunFault, CountsFault}
use Rattle.px_engine.specs.Runs.{KnownMeaning, Stops}

-- whether it has the same meaning; or the fault is the second file's
abbrev pub ComparesSecond : Result Bool CompareFault → Said → Option (List ℕ) → Type 0
ComparesSecond (Ok same) s second = (t : Said) × KnownMeaning second t × (IsTrue same ↔ (s ≡ t))
ComparesSecond (Err e) s second = (e.side ≡ Second) × Stops e.fault second

-- the fault is a failed read exactly if the count of its reader rose
abbrev pub CountsSecond : {A : Type 0} → Result A CompareFault → Calls → Calls → Type 0
CountsSecond (Ok x) second second_now = second_now ≡ second
CountsSecond (Err e) second second_now = CountsFault e.fault second second_now

-- the same, for a file in memory
abbrev pub IsSameAsFirst : Result Bool CompareFault → Said → List ℕ → ℕ → Type 0
IsSameAsFirst (Ok same) s g refused = (t : Said) × HasMeaning g t × (IsTrue same ↔ (s ≡ t))
IsSameAsFirst (Err e) s g refused = (e.side ≡ Second) × IsRunFault g refused e.fault
