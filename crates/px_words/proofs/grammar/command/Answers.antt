use Rattle.px_words.proofs.GrammarLaws.{with_next}
use Rattle.px_words.proofs.grammar.command.Goals as goal

pub returns : goal.returns
returns c = with_next c.with_normalise.result c.with_compare.result _ _
    (with_next c.with_reports.result c.with_normalise.result _ _ c.with_reports.ensures c.with_normalise.ensures) c.with_compare.ensures
