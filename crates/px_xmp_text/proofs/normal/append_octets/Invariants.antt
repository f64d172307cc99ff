use Rattle.std.proofs.Common.{◌≡◌, ◌≤◌, ◌+◌, ◌++◌, drop, length, vec_len, vec_capacity}
use Rattle.px_xmp_text.specs.Texts.{normal_text}
use Rattle.px_xmp_text.proofs.normal.append_octets.Given as goal

-- the normal form of what is left is all that is lacking, and there is space for it
abbrev pub invariant-loop-octet : goal.invariant-loop-octet
invariant-loop-octet l = record {
  items : l.out.items ++ normal_text (drop l.octet-index l.octets) ≡ l.fn.out.items ++ normal_text l.octets;
  len : vec_len l.out + length (normal_text (drop l.octet-index l.octets)) ≡ vec_len l.fn.out + length (normal_text l.octets);
  room : vec_len l.out + length (normal_text (drop l.octet-index l.octets)) ≤ vec_capacity l.out;
  capacity : vec_capacity l.fn.out ≤ vec_capacity l.out;
  failed_allocations : l.memory.failed_allocations ≡ l.fn.memory.failed_allocations;
  asked : l.memory.asked ≡ l.fn.memory.asked;
}
