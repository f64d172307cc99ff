use Rattle.std.proofs.Common.{◌≡◌, drop}
use Rattle.px_xmp_marks.specs.Declarations.{every, is_digit}
use Rattle.px_xmp_marks.proofs.declarations.are_digits.Given as goal

abbrev pub invariant-loop-octet : goal.invariant-loop-octet
invariant-loop-octet l = every is_digit (drop l.octet-index l.octets) ≡ every is_digit l.octets
