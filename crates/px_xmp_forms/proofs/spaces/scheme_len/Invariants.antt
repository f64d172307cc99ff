use Rattle.std.proofs.Common.{◌≡◌, ◌+◌, ◌==◌, drop}
use Rattle.std.specs.List.{position_or_len}
use Rattle.px_xmp_forms.proofs.spaces.scheme_len.Given as goal

abbrev pub invariant-loop-n : goal.invariant-loop-n
invariant-loop-n l = l.n + position_or_len (λ o. o == 58) (drop l.n l.uri) ≡ position_or_len (λ o. o == 58) l.uri
