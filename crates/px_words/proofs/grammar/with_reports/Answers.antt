use Rattle.std.proofs.Common.{codes}
use Rattle.clap.specs.Words.{with_subcommand}
use Rattle.px_words.specs.Words.{bare, of_one}
use Rattle.px_words.proofs.GrammarLaws.{with_next}
use Rattle.px_words.proofs.grammar.with_reports.Goals as goal

pub returns : goal.returns
returns c =
    let shows = with_subcommand bare (of_one (codes "show")) in
    let checks = with_subcommand shows (of_one (codes "check")) in
    with_next c.with_one-checks.result c.with_one.result checks (of_one (codes "captions"))
    (with_next c.with_one-shows.result c.with_one-checks.result shows (of_one (codes "check"))
    (with_next c.bare-bare.result c.with_one-shows.result bare (of_one (codes "show")) c.bare-bare.ensures.shape c.with_one-shows.ensures)
    c.with_one-checks.ensures)
    c.with_one.ensures
