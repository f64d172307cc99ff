use Rattle.std.proofs.Common.{codes}
use Rattle.px_words.specs.Words.{of_two}
use Rattle.px_words.proofs.GrammarLaws.{with_known}
use Rattle.px_words.proofs.grammar.with_normalise.Goals as goal

pub returns : goal.returns
returns c = with_known c.args.command c.of_two.result c.joined.result (of_two (codes "normalise") (codes "FILE") (codes "OUT"))
    c.of_two.ensures.shape c.of_two.ensures.local c.joined.ensures
