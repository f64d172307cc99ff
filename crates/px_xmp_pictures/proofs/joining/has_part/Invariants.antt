use Rattle.std.proofs.Common.{◌≡◌, drop}
use Rattle.px_pictures.specs.Xmp.{has_part}
use Rattle.px_xmp_pictures.proofs.joining.has_part.Given as goal

abbrev pub invariant-loop-n : goal.invariant-loop-n
invariant-loop-n l = has_part l.wanted (drop l.n l.octets) ≡ has_part l.wanted l.octets
