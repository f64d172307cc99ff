use Rattle.std.proofs.Common.{◌≡◌, drop}
use Rattle.px_xmp_pictures.specs.Extension.{capitals}
use Rattle.px_xmp_pictures.proofs.digests.spells.Given as goal

abbrev pub invariant-loop-octet : goal.invariant-loop-octet
invariant-loop-octet l = record {
  value : l.left ≡ capitals (drop l.octet-index l.octets) → l.name ≡ capitals l.octets;
  rest : l.name ≡ capitals l.octets → l.left ≡ capitals (drop l.octet-index l.octets);
}
