use Rattle.std.proofs.Common.{◌≡◌, drop}
use Rattle.px_xmp_marks.specs.Sections.{find}
use Rattle.px_xmp_marks.proofs.sections.find.Given as goal

abbrev pub invariant-loop-n : goal.invariant-loop-n
invariant-loop-n l = find l.mark l.n (drop l.n l.octets) ≡ find l.mark 0 l.octets
