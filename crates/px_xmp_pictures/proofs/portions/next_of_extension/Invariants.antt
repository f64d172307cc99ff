use Rattle.std.proofs.Common.{◌≡◌, length}
use Rattle.px_xmp_pictures.specs.Extension.{extension_pieces}
use Rattle.px_xmp_pictures.proofs.portions.next_of_extension.Given as goal

abbrev pub invariant-loop-piece : goal.invariant-loop-piece
invariant-loop-piece l = extension_pieces l.left ≡ extension_pieces l.initial.left

abbrev pub decreases-loop-piece : goal.decreases-loop-piece
decreases-loop-piece l = length l.left
