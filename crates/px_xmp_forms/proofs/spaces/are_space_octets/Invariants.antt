use Rattle.std.proofs.Common.{◌≡◌, drop}
use Rattle.std.specs.List.{list_all}
use Rattle.px_xmp_forms.specs.Spaces.{is_space_octet}
use Rattle.px_xmp_forms.proofs.spaces.are_space_octets.Given as goal

abbrev pub invariant-loop-octet : goal.invariant-loop-octet
invariant-loop-octet l = list_all is_space_octet (drop l.octet-index l.space) ≡ list_all is_space_octet l.space
