use Rattle.std.proofs.Common.{List, length}
use Rattle.px_xmp_marks.specs.Reading.{Attr}
use Rattle.px_xmp_document.specs.Tags.{are_bound}
use Rattle.px_xmp_document.specs.calls.Passing.{AreListed}
use Rattle.px_xmp_document.proofs.ScopeLaws.{TestLeft}
use Rattle.px_xmp_document.proofs.scopes.Scope.are_bound.Given as goal

abbrev pub invariant-loop-next : goal.invariant-loop-next
invariant-loop-next l = (attributes : List Attr) → AreListed l.octets attributes → TestLeft (are_bound l.self) l.rest attributes

abbrev pub decreases-loop-next : goal.decreases-loop-next
decreases-loop-next l = length l.rest
