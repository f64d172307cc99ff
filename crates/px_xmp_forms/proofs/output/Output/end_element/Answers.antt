use Rattle.std.proofs.Common.{List, sym, subst, refl}
use Rattle.std.proofs.lemmas.Result.{on_ok_weaker}
use Rattle.px_xmp_forms.specs.Labels.{label_view}
use Rattle.px_xmp_forms.specs.Entries.{Entry}
use Rattle.px_xmp_forms.specs.Outputs.{Open, Has, value_of, first_ended}
use Rattle.px_xmp_forms.proofs.output.Output.end_element.Goals as goal

pub returns-clause-value : goal.returns-clause-value
returns-clause-value c s h =
    let (o, os, f, l, r) = c.in-Some.ensures s h in
    let e : Entry = record { label = label_view c.args.label; value = value_of c.args.content o.text o.inner; place = c.args.place } in
    on_ok_weaker c.put_item.result (λ k. subst (λ (ws : List Open). Has c.put_item.new.self
    (record { opened = first_ended c.args.label c.args.content c.args.place ws; properties = s.properties })) (sym f) k)
    (c.put_item.ensures.value (record { opened = os; properties = s.properties }) e r (record {
      element = c.in_ok-element.ensures.value o.text o.inner l.text l.inner l.can l.short;
      place = refl;
    }))
