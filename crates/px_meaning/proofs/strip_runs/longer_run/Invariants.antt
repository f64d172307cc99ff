use Rattle.std.proofs.Common.{◌≡◌, ◌≤◌, ◌+◌, ◌-◌, ◌%◌, Some, length}
use Rattle.px_bytes.specs.Parts.{part}
use Rattle.px_meaning.specs.calls.Strips.{AreJoined, named_strips}
use Rattle.px_meaning.proofs.strip_runs.longer_run.Given as goal

-- the strips so far are from the start up to the end
abbrev pub invariant-loop-j : goal.invariant-loop-j
invariant-loop-j l = record {
  after : l.i + 1 ≤ l.j;
  rising : l.start ≤ l.end;
  inside : l.end ≤ length l.lists.block.now;
  even : (l.end - l.start) % 2 ≡ 0;
  joined : AreJoined (named_strips (Some l.lists)) l.i l.j (part l.lists.block.now l.start (l.end - l.start));
}
