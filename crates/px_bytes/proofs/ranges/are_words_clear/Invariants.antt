use Rattle.std.proofs.Common.{◌-◌, ◌≤◌, ◌*◌}
use Rattle.px_bytes.specs.calls.Marks.{IsClear}
use Rattle.px_bytes.proofs.ranges.are_words_clear.Given as goal

-- nothing in the words so far is marked
abbrev pub invariant-loop-at : goal.invariant-loop-at
invariant-loop-at l = record { begun : l.from ≤ l.at; clear : IsClear l.words (l.from * 64) (l.at * 64) }

abbrev pub decreases-loop-at : goal.decreases-loop-at
decreases-loop-at l = l.end - l.at
