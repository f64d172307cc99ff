use Rattle.std.proofs.Common.{◌≡◌, ◌+◌, drop}
use Rattle.px_xmp_marks.specs.Reading.{name_len}
use Rattle.px_xmp_marks.proofs.names.short_len.Given as goal

abbrev pub invariant-loop-n : goal.invariant-loop-n
invariant-loop-n l = l.n + name_len (drop l.n l.octets) ≡ name_len l.octets
