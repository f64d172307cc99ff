use Rattle.std.proofs.Common.{◌≡◌, drop, map}
use Rattle.px_xmp_document.specs.calls.Keys.{key_view, is_key_among}
use Rattle.px_xmp_document.proofs.stored.is_key_among.Given as goal

abbrev pub invariant-loop-other : goal.invariant-loop-other
invariant-loop-other l =
    is_key_among (key_view l.key) (map key_view (drop l.other-index l.keys)) ≡ is_key_among (key_view l.key) (map key_view l.keys)
