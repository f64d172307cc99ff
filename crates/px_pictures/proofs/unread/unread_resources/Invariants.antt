use Rattle.std.proofs.Common.{◌≡◌, length}
use Rattle.px_jpeg.specs.Resources.{ResourcesInside}
use Rattle.px_pictures.specs.Unread.{unread_from}
use Rattle.px_pictures.proofs.unread.unread_resources.Given as goal

abbrev pub invariant-loop-resource : goal.invariant-loop-resource
invariant-loop-resource l = record {
  inside : ResourcesInside l.octets l.left;
  left : unread_from l.octets l.at l.left ≡ unread_from l.octets 0 l.initial.left;
}

abbrev pub decreases-loop-resource : goal.decreases-loop-resource
decreases-loop-resource l = length l.left
