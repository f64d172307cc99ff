use Rattle.std.proofs.Common.{◌≡◌, ◌≤◌, ◌+◌, ◌-◌, ◌*◌, length, drop, option_map}
use Rattle.px_bytes.specs.Checks.{first_false}
use Rattle.px_iim.specs.Asking.{dataset_count, put_request}
use Rattle.px_iim.specs.Group.{gather}
use Rattle.px_iim.specs.Record.{iim_of}
use Rattle.px_iim.specs.Check.{iim_checks}
use Rattle.px_iim.specs.lemmas.ScanLaws.{checks_left}
use Rattle.px_iim.proofs.reading.Steps.{datasets}
use Rattle.px_iim.proofs.read.read_put.Given as goal

-- what was read, followed by what is left, is all; a fault of all is a fault of what is left; and each DataSet that was read
-- requested no more than one after 64 others
abbrev pub invariant-loop-record : goal.invariant-loop-record
invariant-loop-record l = record {
  inside : l.at ≤ length l.bytes;
  meaning : option_map (gather l.record) (datasets (drop l.at l.bytes)) ≡ iim_of l.bytes;
  faults : first_false (checks_left l.at (drop l.at l.bytes)) ≡ first_false (iim_checks l.bytes);
  memory : l.memory.failed_allocations ≡ l.initial.memory.failed_allocations;
  asked : l.memory.asked ≤ l.initial.memory.asked + dataset_count l.record * put_request 64;
}

abbrev pub decreases-loop-record : goal.decreases-loop-record
decreases-loop-record l = length l.bytes - l.at
