use Rattle.px_words.proofs.GrammarLaws.{bare_app}
use Rattle.std.proofs.lemmas.Result.{IfOk-weaker}
use Rattle.px_words.proofs.grammar.bare.Goals as goal

pub returns : goal.returns
returns c = record {
  shape = IfOk-weaker c.bin_name.result _ _ (λ r h. bare_app c.new.result c.version.result c.about.result c.after_help.result
      c.no_binary_name.result c.disable_help_subcommand.result c.subcommand_required.result r _ _ _ c.new.ensures.app c.version.ensures
      c.about.ensures c.after_help.ensures c.no_binary_name.ensures c.disable_help_subcommand.ensures c.subcommand_required.ensures h.0)
      c.bin_name.ensures;
}
