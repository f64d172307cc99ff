use Rattle.std.proofs.Common.{◌≡◌, drop, map}
use Rattle.px_xmp_marks.specs.Reading.{name_view}
use Rattle.px_xmp_document.specs.calls.Names.{are_names_bound}
use Rattle.px_xmp_document.proofs.scopes.Scope.are_names_bound.Given as goal

abbrev pub invariant-loop-name : goal.invariant-loop-name
invariant-loop-name l = are_names_bound l.self (map name_view (drop l.name-index l.names)) ≡ are_names_bound l.self (map name_view l.names)
