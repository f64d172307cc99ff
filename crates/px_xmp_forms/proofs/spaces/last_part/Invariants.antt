use Rattle.std.proofs.Common.{◌≡◌, ◌≤◌, true, length, drop}
use Rattle.px_xmp_forms.specs.Labels.{are_name_chars}
use Rattle.px_xmp_forms.proofs.spaces.last_part.Given as goal

abbrev pub invariant-loop-start : goal.invariant-loop-start
invariant-loop-start l = record {
  within : l.start ≤ length l.space;
  chars : are_name_chars (drop l.start l.space) ≡ true;
}

abbrev pub decreases-loop-start : goal.decreases-loop-start
decreases-loop-start l = l.start
