use Rattle.std.proofs.Common.{◌≡◌, ◌-◌, ◌≤◌, ◌*◌, length}
use Rattle.px_bytes.specs.calls.Marks.{MarksRange}
use Rattle.px_bytes.proofs.ranges.put_words.Given as goal

-- the words so far are marked
abbrev pub invariant-loop-at : goal.invariant-loop-at
invariant-loop-at l = record {
  begun : l.from ≤ l.at;
  near : l.at ≤ l.to;
  puts : MarksRange l.initial.words l.words (l.from * 64) (l.at * 64);
  space : length l.words ≡ length l.initial.words;
}

abbrev pub decreases-loop-at : goal.decreases-loop-at
decreases-loop-at l = l.to - l.at
