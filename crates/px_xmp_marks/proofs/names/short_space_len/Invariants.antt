use Rattle.std.proofs.Common.{◌≡◌, ◌+◌, drop}
use Rattle.px_xmp_marks.specs.Reading.{space_len}
use Rattle.px_xmp_marks.proofs.names.short_space_len.Given as goal

abbrev pub invariant-loop-n : goal.invariant-loop-n
invariant-loop-n l = l.n + space_len (drop l.n l.octets) ≡ space_len l.octets
