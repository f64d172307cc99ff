use Rattle.std.proofs.Common.{◌≡◌, ◌&&◌, drop}
use Rattle.px_xmp_text.specs.calls.Usual.{are_usual}
use Rattle.px_xmp_text.proofs.characters.are_usual.Given as goal

abbrev pub invariant-loop-octet : goal.invariant-loop-octet
invariant-loop-octet l = (l.all && are_usual l.last (drop l.octet-index l.octets)) ≡ are_usual 0 l.octets
