use Rattle.std.proofs.Common.{length, ◌-◌, ◌≡◌}
use Rattle.px_iim.specs.calls.View.{octets_left}
use Rattle.px_iim.proofs.group.AllIterator.next.Given as goal

abbrev pub invariant-loop-self : goal.invariant-loop-self
invariant-loop-self l = octets_left l.self ≡ octets_left l.initial.self

abbrev pub decreases-loop-self : goal.decreases-loop-self
decreases-loop-self l = length l.self.items.now - l.self.at
