use Rattle.std.proofs.Common.{◌≡◌, ◌+◌, length}
use Rattle.px_iim.proofs.iim.Iim.groups.Given as goal

-- those that are left make the rest of the count
abbrev pub invariant-loop : goal.invariant-loop
invariant-loop l = l.count + length l.iterator' ≡ length l.fn.self
