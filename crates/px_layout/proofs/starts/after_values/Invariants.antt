use Rattle.std.proofs.Common.{◌≡◌, ◌≤◌, ◌+◌, drop}
use Rattle.px_bytes.specs.Parts.{limit}
use Rattle.px_layout.specs.lemmas.RunLaws.{values_size}
use Rattle.px_layout.proofs.starts.after_values.Given as goal

-- what is left comes after what was passed
abbrev pub invariant-loop-i : goal.invariant-loop-i
invariant-loop-i l = record {
  left : l.at + values_size (drop l.i l.entries) ≡ l.initial.at + values_size l.entries;
  most : l.at ≤ limit;
}
