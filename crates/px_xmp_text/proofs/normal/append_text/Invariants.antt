use Rattle.std.proofs.Common.{length, ◌-◌, ◌+◌, ◌*◌, ◌≡◌, ◌≤◌, ◌++◌, ℕ, List, Some, drop, vec_len, vec_capacity}
use Rattle.px_xmp_text.specs.Texts.{text_of, text_in, normal_text}
use Rattle.px_xmp_text.proofs.normal.append_text.Given as goal

-- what is left has a text, whose normal form after what was appended is all; and there is space for it
abbrev pub invariant-loop-at : goal.invariant-loop-at
invariant-loop-at l = record {
  within : l.at ≤ length l.octets;
  left : (t : List ℕ) → text_of l.kind l.octets ≡ Some t → (m : ℕ) × (rest : List ℕ) × (text_in m l.kind (drop l.at l.octets) ≡ Some rest)
      × (l.out.items ++ normal_text rest ≡ l.fn.out.items ++ normal_text t);
  room : vec_len l.out + 5 * (length l.octets - l.at) ≤ vec_capacity l.out;
  failed_allocations : l.memory.failed_allocations ≡ l.fn.memory.failed_allocations;
  asked : l.memory.asked ≡ l.fn.memory.asked;
}

abbrev pub decreases-loop-at : goal.decreases-loop-at
decreases-loop-at l = length l.octets - l.at
