use Rattle.std.proofs.Common.{◌≡◌, ◌≤◌, ◌-◌, ◌*◌, ◌<◌, ◌++◌, List, true, length, drop, option_map}
use Rattle.std.specs.List.{AllByRecursion}
use Rattle.px_bytes.specs.Checks.{first_false}
use Rattle.px_iim.specs.calls.Runs.{key_of, AreNumbers, InOrder}
use Rattle.px_iim.specs.DataSet.{DataSet}
use Rattle.px_iim.specs.Check.{iim_checks}
use Rattle.px_iim.specs.lemmas.ScanLaws.{checks_left}
use Rattle.px_iim.proofs.reading.Steps.{datasets}
use Rattle.px_iim.proofs.survey.survey.Given as goal

-- what was read, and what is left, is all; and what is wrong with all is wrong with what is left
abbrev pub invariant-loop-found : goal.invariant-loop-found
invariant-loop-found l = record {
  inside : l.at ≤ length l.bytes;
  read : (ds : List DataSet) × (option_map (λ (rest : List DataSet). ds ++ rest) (datasets (drop l.at l.bytes)) ≡ datasets l.bytes)
      × (l.count ≡ length ds) × AllByRecursion (λ d. key_of d < l.keys) ds × AreNumbers ds
      × (l.in_order ≡ true → InOrder ds × AllByRecursion (λ d. key_of d ≤ l.last) ds);
  few : 5 * l.count ≤ l.at;
  keys : l.keys ≤ 65536;
  faults : first_false (checks_left l.at (drop l.at l.bytes)) ≡ first_false (iim_checks l.bytes);
}

abbrev pub decreases-loop-found : goal.decreases-loop-found
decreases-loop-found l = length l.bytes - l.at
