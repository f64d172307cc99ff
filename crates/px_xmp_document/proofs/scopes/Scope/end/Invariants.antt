use Rattle.std.proofs.Common.{◌≡◌, length}
use Rattle.px_xmp_document.specs.Scopes.{ended}
use Rattle.px_xmp_document.proofs.scopes.Scope.end.Given as goal

-- the element that ends is still the innermost one
abbrev pub invariant-loop-entry : goal.invariant-loop-entry
invariant-loop-entry l = ended l.self ≡ ended l.fn.self

abbrev pub decreases-loop-entry : goal.decreases-loop-entry
decreases-loop-entry l = length l.self
