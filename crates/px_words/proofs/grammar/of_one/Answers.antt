use Rattle.std.proofs.Common.{◌≡◌, ◌∙◌, ap, codes, false}
use Rattle.std.proofs.lemmas.Result.{IfOk-weaker}
use Rattle.clap.specs.Words.{App, app_of, new_app, with_rule}
use Rattle.clap.specs.declared.builder.Command.TheViews.{out-Command}
use Rattle.px_words.specs.Words.{required}
use Rattle.px_words.proofs.GrammarLaws.{about_app, about_local}
use Rattle.px_words.proofs.grammar.of_one.Goals as goal

pub returns : goal.returns
returns c =
    let app : app_of c.about.result ≡ new_app c.args.name.now = about_app _ _ _ c.about.ensures ∙ c.new.ensures.app in
    let local : (out-Command c.about.result).has_globals ≡ false = about_local _ _ _ c.about.ensures ∙ c.new.ensures.local in
    record {
      shape = IfOk-weaker c.with_word.result _ _ (λ r h. ap (λ (a : App). a.top)
          (h ∙ ap (λ (a : App). with_rule a (required (codes "FILE"))) app)) c.with_word.ensures.shape;
      local = IfOk-weaker c.with_word.result _ _ (λ r h. h ∙ local) c.with_word.ensures.local;
    }
