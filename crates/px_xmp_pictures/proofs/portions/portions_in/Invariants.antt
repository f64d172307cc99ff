use Rattle.std.proofs.Common.{◌≡◌, ◌++◌, length, map}
use Rattle.std.specs.List.{AllByRecursion}
use Rattle.px_xmp_pictures.specs.Extension.{extension_pieces, portion_of, HasName}
use Rattle.px_xmp_pictures.proofs.portions.portions_in.Given as goal

abbrev pub invariant-loop-piece : goal.invariant-loop-piece
invariant-loop-piece l = record {
  named : AllByRecursion (HasName l.bytes l.name) (extension_pieces l.left)
      → AllByRecursion (HasName l.bytes l.name) (extension_pieces l.initial.left);
  rest : AllByRecursion (HasName l.bytes l.name) (extension_pieces l.initial.left)
      → AllByRecursion (HasName l.bytes l.name) (extension_pieces l.left);
  portions : l.list.items ++ map (portion_of l.bytes) (extension_pieces l.left) ≡ map (portion_of l.bytes) (extension_pieces l.initial.left);
  failed_allocations : l.memory.failed_allocations ≡ l.initial.memory.failed_allocations;
}

abbrev pub decreases-loop-piece : goal.decreases-loop-piece
decreases-loop-piece l = length (extension_pieces l.left)
