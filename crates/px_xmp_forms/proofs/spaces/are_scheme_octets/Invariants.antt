use Rattle.std.proofs.Common.{◌≡◌, drop}
use Rattle.std.specs.List.{list_all}
use Rattle.px_xmp_forms.specs.Uris.{is_scheme_octet}
use Rattle.px_xmp_forms.proofs.spaces.are_scheme_octets.Given as goal

abbrev pub invariant-loop-octet : goal.invariant-loop-octet
invariant-loop-octet l = list_all is_scheme_octet (drop l.octet-index l.octets) ≡ list_all is_scheme_octet l.octets
