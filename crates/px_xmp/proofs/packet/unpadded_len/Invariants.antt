use Rattle.std.proofs.Common.{◌≡◌, ◌≤◌, true, length, drop}
use Rattle.px_xmp_marks.specs.Declarations.{every}
use Rattle.px_xmp.specs.Packet.{is_padding}
use Rattle.px_xmp.proofs.packet.unpadded_len.Given as goal

abbrev pub invariant-loop-len : goal.invariant-loop-len
invariant-loop-len l = record {
  within : l.len ≤ length l.octets;
  padding : every is_padding (drop l.len l.octets) ≡ true;
}

abbrev pub decreases-loop-len : goal.decreases-loop-len
decreases-loop-len l = l.len
