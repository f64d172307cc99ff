use Rattle.std.proofs.Common.{◌≡◌, ◌∙◌, ◌||◌, ap, false}
use Rattle.std.proofs.lemmas.Result.{IfOk-weaker}
use Rattle.clap.specs.Words.{app_of, with_rule}
use Rattle.clap.specs.declared.builder.Arg.{Arg}
use Rattle.clap.specs.declared.builder.Command.TheViews.{out-Command}
use Rattle.px_words.proofs.GrammarLaws.{or_false, required_rule}
use Rattle.px_words.proofs.grammar.with_word.Goals as goal

pub returns : goal.returns
returns c =
    let global : c.required.result.global ≡ false = ap (λ (a : Arg). a.global) c.required.ensures ∙ c.new.ensures.optional.1 in
    let rule = required_rule c.new.result c.required.result c.args.word.now c.new.ensures.rule c.required.ensures in
    let has = (out-Command c.args.command).has_globals in
    record {
      shape = IfOk-weaker c.arg.result _ _ (λ r h. h.shape global ∙ ap (with_rule (app_of c.args.command)) rule) c.arg.ensures;
      local = IfOk-weaker c.arg.result _ _ (λ r h. h.globals ∙ ap (λ b. has || b) global ∙ or_false has) c.arg.ensures;
    }
