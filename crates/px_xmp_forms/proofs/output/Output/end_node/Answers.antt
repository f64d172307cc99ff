use Rattle.std.proofs.Common.{List, sym, subst}
use Rattle.std.proofs.lemmas.Result.{on_ok_weaker}
use Rattle.px_xmp_forms.specs.Outputs.{Open, Has, first_closed}
use Rattle.px_xmp_forms.proofs.output.Output.end_node.Goals as goal

pub returns-clause-value : goal.returns-clause-value
returns-clause-value c s h =
    let (o, os, f, l, r) = c.in-Some.ensures s h in
    on_ok_weaker c.put_inner.result
    (λ k. subst (λ (ws : List Open). Has c.put_inner.new.self (record { opened = first_closed ws; properties = s.properties })) (sym f) k)
    (c.put_inner.ensures.value (record { opened = os; properties = s.properties }) o.inner r l.inner l.can l.short)
