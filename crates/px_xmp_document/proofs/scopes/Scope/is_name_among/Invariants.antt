use Rattle.std.proofs.Common.{◌≡◌, drop, map}
use Rattle.px_xmp_marks.specs.Reading.{name_view}
use Rattle.px_xmp_document.specs.calls.Names.{is_name_among}
use Rattle.px_xmp_document.proofs.scopes.Scope.is_name_among.Given as goal

abbrev pub invariant-loop-other : goal.invariant-loop-other
invariant-loop-other l = is_name_among l.self (name_view l.name) (map name_view (drop l.other-index l.names)) ≡ is_name_among l.self (name_view l.name) (map name_view l.names)
