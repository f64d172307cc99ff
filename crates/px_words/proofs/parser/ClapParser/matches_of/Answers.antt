use Rattle.std.proofs.Common.{map}
use Rattle.clap.specs.Words.{FailsBy, app_of}
use Rattle.px_words.proofs.matching.Parsed.{kinds_matched}
use Rattle.px_words.proofs.parser.ClapParser.matches_of.Goals as goal

pub returns-clause-kinds : goal.returns-clause-kinds
returns-clause-kinds g c =
    kinds_matched (map g.S.AsStr.text c.args.words.now) (app_of c.in_ok-command.command) c.in_ok-command.ensures
    (λ kinds. FailsBy kinds c.try_get_matches_from.result) c.try_get_matches_from.ensures.kinds
