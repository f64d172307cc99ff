use Rattle.std.proofs.Common.{◌≡◌, ◌∙◌, ap}
use Rattle.std.proofs.lemmas.Result.{IfOk-weaker}
use Rattle.clap.specs.Words.{App, app_of, new_app, with_rule}
use Rattle.px_words.specs.Words.{required}
use Rattle.px_words.proofs.GrammarLaws.{about_app, about_local}
use Rattle.px_words.proofs.grammar.of_two.Goals as goal

pub returns : goal.returns
returns c =
    let new : app_of c.about.result ≡ new_app c.args.name.now = about_app _ _ _ c.about.ensures ∙ c.new.ensures.app in
    let app = c.in_ok-with_first.ensures.shape ∙ ap (λ (a : App). with_rule a (required c.args.first.now)) new in
    let local = c.in_ok-with_first.ensures.local ∙ about_local _ _ _ c.about.ensures ∙ c.new.ensures.local in
    record {
      shape = IfOk-weaker c.with_word-2.result _ _ (λ r h. ap (λ (a : App). a.top)
          (h ∙ ap (λ (a : App). with_rule a (required c.args.second.now)) app)) c.with_word-2.ensures.shape;
      local = IfOk-weaker c.with_word-2.result _ _ (λ r h. h ∙ local) c.with_word-2.ensures.local;
    }
