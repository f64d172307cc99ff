use Rattle.std.proofs.Common.{◌≡◌, length}
use Rattle.px_jpeg.specs.Resources.{ResourcesInside}
use Rattle.px_pictures.specs.Xmp.{xmp_resource}
use Rattle.px_pictures.proofs.xmp.xmp_resource.Given as goal

abbrev pub invariant-loop-resource : goal.invariant-loop-resource
invariant-loop-resource l = record {
  inside : ResourcesInside l.octets l.left;
  left : xmp_resource l.left ≡ xmp_resource l.initial.left;
}

abbrev pub decreases-loop-resource : goal.decreases-loop-resource
decreases-loop-resource l = length l.left
