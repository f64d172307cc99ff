use Rattle.std.proofs.Common.{◌≡◌, ◌&&◌, drop}
use Rattle.px_xmp_marks.specs.Declarations.{every}
use Rattle.px_xmp.specs.calls.Steps.{is_plain_space}
use Rattle.px_xmp.proofs.source.are_plain_spaces.Given as goal

abbrev pub invariant-loop-octet : goal.invariant-loop-octet
invariant-loop-octet l = (l.all && every is_plain_space (drop l.octet-index l.octets)) ≡ every is_plain_space l.octets
