use Rattle.std.proofs.Common.{◌≡◌, ◌≤◌, ◌+◌, ◌*◌, ℕ, List, length}
use Rattle.px_xmp_forms.specs.Outputs.{State, Has}
use Rattle.px_xmp.specs.calls.Opening.{node_view}
use Rattle.px_xmp.specs.calls.Steps.{IsLeft}
use Rattle.px_xmp.proofs.ContentLaws.{ItemsSoFar}
use Rattle.px_xmp.proofs.ItemLaws.{ItemsAhead}
use Rattle.px_xmp.proofs.reader.Reader.+content.Given as goal

abbrev pub decreases-read_content : goal.decreases-read_content
decreases-read_content l = 5 * length l.self.now.source.rest.now + 3

abbrev pub decreases-read_items : goal.decreases-read_items
decreases-read_items l = 5 * length l.self.now.source.rest.now

abbrev pub decreases-read_node : goal.decreases-read_node
decreases-read_node l = 5 * length l.self.now.source.rest.now + 1

abbrev pub decreases-read_text_or_node : goal.decreases-read_text_or_node
decreases-read_text_or_node l = 5 * length l.self.now.source.rest.now + 2

abbrev pub decreases-read_value : goal.decreases-read_value
decreases-read_value l = 5 * length l.self.now.source.rest.now + 4

abbrev pub invariant-read_items-items : goal.invariant-read_items-items
invariant-read_items-items l = record {
  within : length l.self.source.rest.now ≤ length l.fn.self.source.rest.now;
  read : (s : State) → Has l.fn.self.output s → IsLeft l.fn.self.source.at l.fn.self.source.rest.now
      → ItemsSoFar (node_view l.node) l.around.language.now l.around.depth l.fn.self.source l.self.source s l.self.output;
  ahead : (s : State) (y : List ℕ) → Has l.fn.self.output s
      → ItemsAhead (node_view l.node) l.around.language.now l.around.depth l.fn.self.source y
      → ItemsAhead (node_view l.node) l.around.language.now l.around.depth l.self.source y;
  failed_allocations : l.memory.failed_allocations ≡ l.fn.memory.failed_allocations;
}

abbrev pub decreases-read_items-items : goal.decreases-read_items-items
decreases-read_items-items l = length l.self.source.rest.now
