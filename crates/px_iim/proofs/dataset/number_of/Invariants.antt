use Rattle.std.proofs.Common.{◌≡◌}
use Rattle.px_bytes.specs.declared.Order.TheVariants.{Most}
use Rattle.px_bytes.specs.Numbers.{number}
use Rattle.px_iim.proofs.dataset.number_of.Given as goal

abbrev pub invariant-loop-octet : goal.invariant-loop-octet
invariant-loop-octet l = l.number ≡ number Most l.octet-index l.octets
