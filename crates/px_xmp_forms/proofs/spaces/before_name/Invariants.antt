use Rattle.std.proofs.Common.{◌≡◌, ◌+◌, drop}
use Rattle.px_xmp_forms.specs.calls.Ends.{before_start}
use Rattle.px_xmp_forms.proofs.spaces.before_name.Given as goal

abbrev pub invariant-loop-n : goal.invariant-loop-n
invariant-loop-n l = l.n + before_start (drop l.n l.octets) ≡ before_start l.octets
