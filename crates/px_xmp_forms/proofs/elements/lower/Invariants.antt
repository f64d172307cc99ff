use Rattle.std.proofs.Common.{◌≡◌, ◌≤◌, ◌+◌, take, min, length, vec_len, vec_capacity}
use Rattle.std.specs.Str.{str_to_ascii_lowercase}
use Rattle.px_xmp_forms.specs.Forms.{most}
use Rattle.px_xmp_forms.proofs.elements.lower.Given as goal

abbrev pub invariant-loop-octet : goal.invariant-loop-octet
invariant-loop-octet l = record {
  value : l.octets.items ≡ str_to_ascii_lowercase (take l.octet-index l.language);
  failed_allocations : l.memory.failed_allocations ≡ l.fn.memory.failed_allocations;
  len : vec_len l.octets ≡ l.octet-index;
  space : min most (length l.language) ≤ vec_capacity l.octets;
  asked : length l.language ≤ most → l.memory.asked ≤ l.fn.memory.asked + length l.language;
}
