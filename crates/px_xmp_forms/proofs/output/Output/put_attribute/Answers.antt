use Rattle.std.proofs.lemmas.Result.{on_ok_weaker}
use Rattle.px_xmp_forms.specs.Outputs.{attribute_entry}
use Rattle.px_xmp_forms.proofs.output.Output.put_attribute.Goals as goal

pub returns-clause-value : goal.returns-clause-value
returns-clause-value c s h =
    let (t, read, i) = c.in_ok-item.ensures.value in
    on_ok_weaker c.put_item.result (λ k. (t, read, k))
    (c.put_item.ensures.value s (attribute_entry c.args.label c.args.origin t)
    (record { levels = h.levels; properties = h.properties; can = h.can; short = h.short; order = h.order }) i)
