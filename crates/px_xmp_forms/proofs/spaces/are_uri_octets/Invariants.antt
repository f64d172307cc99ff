use Rattle.std.proofs.Common.{◌≡◌, drop}
use Rattle.px_xmp_forms.specs.Uris.{are_uri_octets}
use Rattle.px_xmp_forms.proofs.spaces.are_uri_octets.Given as goal

abbrev pub invariant-loop-n : goal.invariant-loop-n
invariant-loop-n l = are_uri_octets (drop l.n l.octets) ≡ are_uri_octets l.octets
