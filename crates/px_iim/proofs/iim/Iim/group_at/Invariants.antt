use Rattle.std.proofs.Common.{◌≡◌, ◌<◌, length, slice_get}
use Rattle.px_iim.proofs.iim.Iim.group_at.Given as goal

-- the group that is sought is among those that are left
abbrev pub invariant-loop-group : goal.invariant-loop-group
invariant-loop-group l = record {
  inside : l.left < length l.group-iterator;
  same : slice_get l.group-iterator l.left ≡ slice_get l.fn.self l.i;
}
