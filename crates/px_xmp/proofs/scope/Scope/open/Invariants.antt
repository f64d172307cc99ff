use Rattle.std.proofs.Common.{◌≡◌, List, length, option_map}
use Rattle.px_xmp_marks.specs.Reading.{Attr}
use Rattle.px_xmp.specs.calls.Listed.{AreListed}
use Rattle.px_xmp.proofs.TagLaws.{Left}
use Rattle.px_xmp.proofs.scope.Scope.open.Given as goal

-- what is left of the attributes leads to what all of them lead to
abbrev pub invariant-loop-next : goal.invariant-loop-next
invariant-loop-next l = record {
  failed_allocations : l.memory.failed_allocations ≡ l.fn.memory.failed_allocations;
  left : (all : List Attr) → AreListed l.attributes all
      → Left l.rest l.self (option_map (λ x. x.now) l.noted.language) (option_map (λ x. x.now) l.noted.first) all l.fn.self;
}

abbrev pub decreases-loop-next : goal.decreases-loop-next
decreases-loop-next l = length l.rest
