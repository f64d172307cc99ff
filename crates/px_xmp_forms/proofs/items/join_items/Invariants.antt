use Rattle.std.proofs.Common.{◌≡◌, ◌++◌, List, [], drop, length}
use Rattle.px_xmp_text.specs.Values.{written}
use Rattle.px_xmp_forms.specs.Entries.{Entry, row}
use Rattle.px_xmp_forms.specs.Outputs.{AreItems}
use Rattle.px_xmp_forms.proofs.items.join_items.Given as goal

abbrev pub invariant-loop-item : goal.invariant-loop-item
invariant-loop-item l = record {
  value : (es : List Entry) → AreItems l.fn.items.items es → (fs : List Entry) × AreItems (drop (length l.yielded) l.fn.items.items) fs
      × (written (row es) [] ≡ l.joined ++ written (row fs) []);
  failed_allocations : l.memory.failed_allocations ≡ l.fn.memory.failed_allocations;
}
