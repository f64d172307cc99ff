use Rattle.std.proofs.lemmas.Result.{on_ok_weaker}
use Rattle.px_xmp_forms.specs.Outputs.{with_inner}
use Rattle.px_xmp_forms.proofs.OutputLaws.{has_changed}
use Rattle.px_xmp_forms.proofs.output.Output.put_inner.Goals as goal

pub returns-clause-value : goal.returns-clause-value
returns-clause-value c s d h e k short =
    let (o, os, f, l, r) = c.in-Some.ensures s h in
    on_ok_weaker c.push.result (has_changed c.push.new.self (with_inner d) s o os f)
    (c.push.ensures.value (record { opened = os; properties = s.properties }) (with_inner d o) r
    (record { text = l.text; inner = e; can = k; short = short; entries = l.entries }))
