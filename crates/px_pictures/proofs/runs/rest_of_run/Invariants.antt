use Rattle.std.proofs.Common.{◌≡◌, ◌+◌, length}
use Rattle.px_pictures.specs.calls.Runs.{run_size, run_rest}
use Rattle.px_pictures.proofs.runs.rest_of_run.Given as goal

abbrev pub invariant-loop-size : goal.invariant-loop-size
invariant-loop-size l = record {
  size : l.size + run_size l.left ≡ run_size l.initial.left;
  rest : run_rest l.left ≡ run_rest l.initial.left;
}

abbrev pub decreases-loop-size : goal.decreases-loop-size
decreases-loop-size l = length l.left
