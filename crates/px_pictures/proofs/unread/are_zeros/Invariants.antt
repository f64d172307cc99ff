use Rattle.std.proofs.Common.{◌≡◌, drop}
use Rattle.px_pictures.specs.Unread.{are_zeros}
use Rattle.px_pictures.proofs.unread.are_zeros.Given as goal

abbrev pub invariant-loop-octet : goal.invariant-loop-octet
invariant-loop-octet l = are_zeros (drop l.octet-index l.octets) ≡ are_zeros l.octets
