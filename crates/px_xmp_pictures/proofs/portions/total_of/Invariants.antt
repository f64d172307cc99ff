use Rattle.std.proofs.Common.{◌≡◌, ◌≤◌, ◌+◌, length, drop}
use Rattle.std.specs.List.{flat_map}
use Rattle.px_bytes.specs.Parts.{limit}
use Rattle.px_xmp_pictures.specs.Extension.{text_of}
use Rattle.px_xmp_pictures.proofs.portions.total_of.Given as goal

abbrev pub invariant-loop-portion : goal.invariant-loop-portion
invariant-loop-portion l = record {
  within : l.total ≤ limit;
  sum : l.total + length (flat_map (text_of l.bytes) (drop l.portion-index l.portions)) ≡ length (flat_map (text_of l.bytes) l.portions);
}
