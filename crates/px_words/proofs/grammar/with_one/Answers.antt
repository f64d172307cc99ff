use Rattle.px_words.specs.Words.{of_one}
use Rattle.px_words.proofs.GrammarLaws.{with_known}
use Rattle.px_words.proofs.grammar.with_one.Goals as goal

pub returns : goal.returns
returns c = with_known c.args.command c.of_one.result c.joined.result (of_one c.args.name.now) c.of_one.ensures.shape c.of_one.ensures.local
    c.joined.ensures
