use Rattle.std.proofs.Common.{◌≡◌, drop}
use Rattle.px_xmp_marks.specs.Reading.{is_space}
use Rattle.px_xmp_marks.specs.Declarations.{every}
use Rattle.px_xmp_markup.proofs.kinds.are_few_spaces.Given as goal

abbrev pub invariant-loop-octet : goal.invariant-loop-octet
invariant-loop-octet l = every is_space (drop l.octet-index l.octets) ≡ every is_space l.octets
