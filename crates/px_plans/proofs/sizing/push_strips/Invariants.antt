use Rattle.std.proofs.Common.{◌≡◌, ◌≤◌, ◌+◌, ◌++◌, length, drop}
use Rattle.px_layout.specs.Chunks.{strip_chunks}
use Rattle.px_plans.specs.Asking.{chunks_request}
use Rattle.px_plans.specs.calls.AskedAndPaid.{asked_and_paid}
use Rattle.px_plans.proofs.sizing.push_strips.Given as goal

-- the chunks so far and then the strips left; no allocation failed; what the strips so far have paid for
abbrev pub invariant-loop-i : goal.invariant-loop-i
invariant-loop-i l = record {
  chunks : l.out.items ++ strip_chunks l.i (drop l.i l.strips) ≡ l.initial.out.items ++ strip_chunks 0 l.strips;
  memory : l.memory.failed_allocations ≡ l.initial.memory.failed_allocations;
  paid : asked_and_paid 16 l.memory l.out + chunks_request (length (strip_chunks l.i (drop l.i l.strips)))
      ≤ asked_and_paid 16 l.initial.memory l.initial.out + chunks_request (length (strip_chunks 0 l.strips));
}
