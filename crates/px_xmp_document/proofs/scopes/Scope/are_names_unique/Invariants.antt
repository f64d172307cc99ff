use Rattle.std.proofs.Common.{◌≡◌, drop, map}
use Rattle.px_xmp_marks.specs.Reading.{name_view}
use Rattle.px_xmp_document.specs.calls.Names.{are_names_unique}
use Rattle.px_xmp_document.proofs.scopes.Scope.are_names_unique.Given as goal

abbrev pub invariant-loop-n : goal.invariant-loop-n
invariant-loop-n l = are_names_unique l.self (map name_view (drop l.n l.names)) ≡ are_names_unique l.self (map name_view l.names)
