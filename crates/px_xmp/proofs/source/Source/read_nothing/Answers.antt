use Rattle.std.proofs.Common.{Bool, subst}
use Rattle.px_xmp.specs.calls.Steps.{HasInside}
use Rattle.px_xmp.proofs.source.Source.read_nothing.Goals as goal

pub returns-clause-accepts : goal.returns-clause-accepts
returns-clause-accepts c nodes y left white within =
    c.read_end.ensures.accepts nodes y left white
    (subst (λ (b : Bool). HasInside b nodes c.args.self.now.scope c.args.self.now.at c.args.self.now.rest.now y) c.if-is_empty.false within)
