use Rattle.std.proofs.Common.{◌≡◌, length}
use Rattle.px_pictures.specs.Unread.{unread_segment}
use Rattle.px_pictures.proofs.unread.unread_segment.Given as goal

abbrev pub invariant-loop-found : goal.invariant-loop-found
invariant-loop-found l = unread_segment l.bytes l.left ≡ unread_segment l.bytes l.initial.left

abbrev pub decreases-loop-found : goal.decreases-loop-found
decreases-loop-found l = length l.left
