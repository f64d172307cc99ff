use Rattle.std.proofs.Common.{◌++◌, ◌∷◌, ◌∙◌, List, ℕ, sym, ap, subst, not, length, drop, refl}
use Rattle.std.proofs.lemmas.List.{drop_at}
use Rattle.std.proofs.lemmas.Grind.{flat_map-append}
use Rattle.px_xmp_text.specs.Texts.{normal_text, normal_octet}
use Rattle.px_xmp_forms.specs.Outputs.{Open, PutsFirst, with_text}
use Rattle.px_xmp_forms.proofs.output.Output.put_text.Goals as goal

pub returns-clause-value : goal.returns-clause-value
returns-clause-value c s h =
    let (o, os, e, l, r) = c.in-Some.ensures s h in
    let (t, read, f) = c.in_ok-text.ensures.value in
    let more : Open = with_text (o.text ++ t) o in
    let n = length c.octets-before.result.now in
    let front = sym (ap length c.octets-before.ensures.value) in
    let form = c.tail.ensures ∙ ap (drop n) (c.octets.ensures.value ∙ f) ∙ drop_at c.in-Some.level.text (normal_text t) n front in
    let blank = c.is_blank-is_blank.ensures t form in (
      record { opened = more ∷ os; properties = s.properties },
      c.in_ok-push.ensures.value (record { opened = os; properties = s.properties }) more r (record {
        text = f ∙ ap (λ (z : List ℕ). z ++ normal_text t) l.text ∙ sym (flat_map-append normal_octet o.text t);
        inner = l.inner;
        can = l.can;
        short = l.short;
        entries = l.entries;
      }),
      (subst (λ (xs : List Open). PutsFirst c.args.kind c.args.octets.now xs (not c.is_blank-is_blank.result) (more ∷ os)) (sym e) (t, read, ap not blank, refl), refl),
    )
