use Rattle.std.proofs.Common.{◌≡◌, take, map}
use Rattle.px_iim.specs.calls.View.{item_view}
use Rattle.px_iim.proofs.same.same_items.Given as goal

abbrev pub invariant-loop-i : goal.invariant-loop-i
invariant-loop-i l = take l.i (map item_view l.first) ≡ take l.i (map item_view l.second)
