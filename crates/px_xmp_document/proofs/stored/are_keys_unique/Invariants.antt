use Rattle.std.proofs.Common.{◌≡◌, drop, map}
use Rattle.px_xmp_document.specs.calls.Keys.{key_view, are_keys_unique}
use Rattle.px_xmp_document.proofs.stored.are_keys_unique.Given as goal

abbrev pub invariant-loop-n : goal.invariant-loop-n
invariant-loop-n l = are_keys_unique (map key_view (drop l.n l.keys)) ≡ are_keys_unique (map key_view l.keys)
