use Rattle.std.proofs.Common.{◌≤◌, ◌-◌, ℕ, List, length, take}
use Rattle.px_xmp.specs.Packet.{AreAround}
use Rattle.px_xmp.proofs.packet.around_len.Given as goal

abbrev pub invariant-pieces : goal.invariant-pieces
invariant-pieces l = record {
  within : l.at ≤ length l.packet;
  around : (pieces : List (List ℕ)) × AreAround pieces (take l.at l.packet);
}

abbrev pub decreases-pieces : goal.decreases-pieces
decreases-pieces l = length l.packet - l.at
