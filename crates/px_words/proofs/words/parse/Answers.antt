use Rattle.std.proofs.Common.{◌≡◌, ◌==◌, false, length, map}
use Rattle.clap.specs.Words.{subcommand_rows_of}
use Rattle.px_words.proofs.matching.Parsed.{asks_no_filter, filter_not, met_in, parse_failed, subcommand_matched, decides_no_filter}
use Rattle.px_words.proofs.WordLaws.{matched_files, matched_plain, matched_read}
use Rattle.px_words.proofs.words.parse.Goals as goal

pub read_match-requires : goal.read_match-requires
read_match-requires g c =
    let ws = map g.S.AsStr.text c.args.words.now in
    met_in ws c.in-Ok.matches c.in-Ok.ensures.kinds c.in-Ok.ensures.rows

pub returns-in-Ok : goal.returns-in-Ok
returns-in-Ok g c =
    let ws = map g.S.AsStr.text c.args.words.now in
    let some : false ≡ (length c.args.words.now == 0) = cc in
    let w = c.read_match.result in
    let rows = subcommand_rows_of c.in-Ok.matches in
    let asks = c.read_match.ensures.asked in
    let means = subcommand_matched ws c.in-Ok.matches c.in-Ok.ensures.kinds c.in-Ok.ensures.rows w asks in
    record {
      filter = filter_not g.S.AsStr.text c.args.words.now w some (asks_no_filter rows w (matched_files rows w asks.1));
      asked = means.0;
      fault = means.1;
      taken = λ taken. means.2;
      lacking = λ unread. absurd (matched_read rows w asks.1 unread);
      plain = matched_plain rows w asks.1;
      memory = c.read_match.ensures.memory;
    }

pub returns-in-Err : goal.returns-in-Err
returns-in-Err g c =
    let ws = map g.S.AsStr.text c.args.words.now in
    let some : false ≡ (length c.args.words.now == 0) = cc in
    let w = c.read_error.result in
    let reports = c.read_error.ensures in
    let means = parse_failed ws c.in-Err.error w c.in-Err.ensures.kinds reports.asked reports.kind reports.lacking.0 in
    record {
      filter = filter_not g.S.AsStr.text c.args.words.now w some (decides_no_filter w reports.asked);
      asked = means.0;
      fault = means.1;
      taken = means.2;
      lacking = λ unread. c.in-Err.ensures.lacks (reports.lacking.1 unread);
      plain = reports.plain;
      memory = reports.memory;
    }
