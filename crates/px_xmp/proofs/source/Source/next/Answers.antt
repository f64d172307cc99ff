use Rattle.std.proofs.Common.{sym, arith}
use Rattle.px_xmp.specs.Reading.{mark_view}
use Rattle.px_xmp.proofs.StepLaws.{next_read}
use Rattle.px_xmp.proofs.source.Source.next.Goals as goal

pub returns-clause-read : goal.returns-clause-read
returns-clause-read c left =
    next_read c.kinds_are_read.ensures c.args.self.now.rest.now (mark_view c.in-Some.mark) c.args.self.now.at c.saturating_add-self.result
    c.split_at.result.1.now left (sym c.in-Some.ensures.value) c.split_at.ensures.back
    (omega (arith, c.saturating_add-self.ensures, left.few, c.in-Some.ensures.within))
