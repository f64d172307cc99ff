use Rattle.std.proofs.lemmas.Result.{on_ok_weaker}
use Rattle.px_xmp_forms.specs.Outputs.{with_text}
use Rattle.px_xmp_forms.proofs.OutputLaws.{has_changed}
use Rattle.px_xmp_forms.proofs.output.Output.replace_text.Goals as goal

pub returns-clause-value : goal.returns-clause-value
returns-clause-value c s t h e =
    let (o, os, f, l, r) = c.in-Some.ensures s h in
    on_ok_weaker c.push.result (has_changed c.push.new.self (with_text t) s o os f)
    (c.push.ensures.value (record { opened = os; properties = s.properties }) (with_text t o) r
    (record { text = e; inner = l.inner; can = l.can; short = l.short; entries = l.entries }))
