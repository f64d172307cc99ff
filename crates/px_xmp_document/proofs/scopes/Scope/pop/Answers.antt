use Rattle.std.proofs.Common.{sym, ◌∙◌, arith}
use Rattle.px_xmp_document.proofs.ScopeLaws.{entries_pop}
use Rattle.px_xmp_document.proofs.scopes.Scope.pop.Goals as goal

pub returns : goal.returns
returns c =
    let all = c.self.invariant.1 in
    sym c.self.view_is
    ∙ entries_pop c.self.inside.len c.self.inside.entries _ (omega (arith, c.if-self-eq0.false)) (omega (arith, all, c.self.invariant.0))
