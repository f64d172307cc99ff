use Rattle.std.proofs.Common.{◌≡◌, ◌≤◌, ◌+◌, ◌*◌, ◌++◌, length, take, flat_map}
use Rattle.std.specs.Prelude.{vec_len, vec_capacity}
use Rattle.px_field.specs.Forms.{size}
use Rattle.px_field.specs.Values.{encode, form_in}
use Rattle.px_field.proofs.spelling.append_elements.Given as goal

abbrev pub invariant-loop-i : goal.invariant-loop-i
invariant-loop-i l = record {
  items : l.out.items ≡ l.fn.out.items ++ flat_map (encode l.order) (take l.i l.value.elements);
  len : vec_len l.out ≡ vec_len l.fn.out + l.i * size (form_in l.value.kind);
  space : vec_len l.fn.out + length l.value.elements * size (form_in l.value.kind) ≤ vec_capacity l.out;
  memory : l.memory.failed_allocations ≡ l.fn.memory.failed_allocations;
  asked : l.memory.asked ≡ l.fn.memory.asked;
}
