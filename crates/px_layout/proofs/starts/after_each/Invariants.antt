use Rattle.std.proofs.Common.{◌≡◌, ◌≤◌, ◌+◌, drop}
use Rattle.px_bytes.specs.Parts.{limit}
use Rattle.px_layout.specs.Chunks.{strip_chunks}
use Rattle.px_layout.specs.Normal.{padded_size}
use Rattle.px_layout.proofs.starts.after_each.Given as goal

-- what is left comes after what was passed
abbrev pub invariant-loop-i : goal.invariant-loop-i
invariant-loop-i l = record {
  left : l.at + padded_size (strip_chunks l.i (drop l.i l.strips)) ≡ l.initial.at + padded_size (strip_chunks 0 l.strips);
  most : l.at ≤ limit;
}
