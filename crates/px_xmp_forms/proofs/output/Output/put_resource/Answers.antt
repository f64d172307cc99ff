use Rattle.std.proofs.Common.{◌++◌, ◌∙◌, List, ℕ, ap}
use Rattle.std.proofs.lemmas.Result.{on_ok_weaker}
use Rattle.px_xmp_text.specs.Texts.{normal_text}
use Rattle.px_xmp_forms.proofs.output.Output.put_resource.Goals as goal

pub returns-clause-value : goal.returns-clause-value
returns-clause-value c s h =
    let (t, read, f) = c.in_ok-text.ensures.value in
    on_ok_weaker c.replace_text.result (λ k. (t, read, k))
    (c.replace_text.ensures.value s t h (f ∙ ap (λ (z : List ℕ). z ++ normal_text t) c.new.ensures))
