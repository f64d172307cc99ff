use Rattle.std.proofs.Common.{◌≡◌, ◌++◌, length, drop}
use Rattle.std.specs.List.{flat_map}
use Rattle.px_xmp_pictures.specs.Extension.{text_of, Follow}
use Rattle.px_xmp_pictures.proofs.portions.join_portions.Given as goal

abbrev pub invariant-loop-portion : goal.invariant-loop-portion
invariant-loop-portion l = record {
  follow : Follow l.bytes l.total (length l.octets.items) (drop l.portion-index l.portions) → Follow l.bytes l.total 0 l.portions;
  rest : Follow l.bytes l.total 0 l.portions → Follow l.bytes l.total (length l.octets.items) (drop l.portion-index l.portions);
  joined : l.octets.items ++ flat_map (text_of l.bytes) (drop l.portion-index l.portions) ≡ flat_map (text_of l.bytes) l.portions;
  failed_allocations : l.memory.failed_allocations ≡ l.initial.memory.failed_allocations;
}
