use Rattle.std.proofs.Common.{List, length}
use Rattle.px_xmp_marks.specs.Reading.{Attr}
use Rattle.px_xmp_document.specs.calls.Passing.{AreListed}
use Rattle.px_xmp_document.proofs.ScopeLaws.{Left}
use Rattle.px_xmp_document.proofs.scopes.Scope.declare_all.Given as goal

abbrev pub invariant-loop-next : goal.invariant-loop-next
invariant-loop-next l = (attributes : List Attr) → AreListed l.octets attributes → Left l.rest l.self attributes l.fn.self

abbrev pub decreases-loop-next : goal.decreases-loop-next
decreases-loop-next l = length l.rest
