use Rattle.std.proofs.Common.{◌≡◌, ◌++◌, length, drop, take, map}
use Rattle.px_xmp_marks.specs.Reading.{attribute_view}
use Rattle.px_xmp_document.specs.Tags.{attribute_limit}
use Rattle.px_xmp_document.specs.calls.Keys.{key_view, keys_of}
use Rattle.px_xmp_document.proofs.scopes.Scope.store_keys.Given as goal

abbrev pub invariant-loop-n : goal.invariant-loop-n
invariant-loop-n l =
    (length l.keys ≡ attribute_limit)
    × (map key_view (take l.n l.keys) ++ keys_of l.self (map attribute_view (drop l.n l.attributes))
    ≡ keys_of l.self (map attribute_view l.attributes))
