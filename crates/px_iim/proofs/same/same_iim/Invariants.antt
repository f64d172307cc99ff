use Rattle.std.proofs.Common.{◌≡◌}
use Rattle.px_iim.proofs.same.same_iim.Given as goal

-- the records are the same exactly if what is left of them is
abbrev pub invariant-loop-group : goal.invariant-loop-group
invariant-loop-group l = record {
  down : l.first ≡ l.second → l.group-iterator ≡ l.others;
  up : l.group-iterator ≡ l.others → l.first ≡ l.second;
}
