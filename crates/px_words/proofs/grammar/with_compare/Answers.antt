use Rattle.std.proofs.Common.{codes}
use Rattle.px_words.specs.Words.{of_two}
use Rattle.px_words.proofs.GrammarLaws.{with_known}
use Rattle.px_words.proofs.grammar.with_compare.Goals as goal

pub returns : goal.returns
returns c = with_known c.args.command c.of_two.result c.joined.result (of_two (codes "compare") (codes "FIRST") (codes "SECOND"))
    c.of_two.ensures.shape c.of_two.ensures.local c.joined.ensures
