use Rattle.std.proofs.Common.{◌≡◌, ◌≤◌, ◌-◌, length, drop, is_some}
use Rattle.px_iim.specs.Record.{iim_of}
use Rattle.px_iim.proofs.reading.Steps.{datasets}
use Rattle.px_iim.proofs.read.accepts.Given as goal

abbrev pub invariant-loop-found : goal.invariant-loop-found
invariant-loop-found l = record {
  inside : l.at ≤ length l.bytes;
  meaning : is_some (datasets (drop l.at l.bytes)) ≡ is_some (iim_of l.bytes);
}

abbrev pub decreases-loop-found : goal.decreases-loop-found
decreases-loop-found l = length l.bytes - l.at
