use Rattle.std.proofs.Common.{◌≡◌, drop}
use Rattle.px_tree.specs.Checks.{is_earlier_at}
use Rattle.px_tree.specs.calls.Linked.{offsets_of}
use Rattle.px_tree.proofs.links.is_earlier.Given as goal

abbrev pub invariant-loop-link : goal.invariant-loop-link
invariant-loop-link l = is_earlier_at (offsets_of (drop l.link-index l.earlier)) l.at ≡ is_earlier_at (offsets_of l.earlier) l.at
