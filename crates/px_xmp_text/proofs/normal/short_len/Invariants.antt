use Rattle.std.proofs.Common.{◌≡◌, ◌+◌, drop}
use Rattle.px_xmp_text.specs.calls.Appending.{plain_len}
use Rattle.px_xmp_text.proofs.normal.short_len.Given as goal

abbrev pub invariant-loop-n : goal.invariant-loop-n
invariant-loop-n l = l.n + plain_len (drop l.n l.octets) ≡ plain_len l.octets
