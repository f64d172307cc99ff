use Rattle.std.proofs.Common.{sym}
use Rattle.px_xmp_marks.specs.Reading.{start_tag_view}
use Rattle.px_xmp_marks.proofs.MarkLaws.{tag_mark}
use Rattle.px_xmp_marks.proofs.marks.read_mark.Goals as goal

pub returns-in-Some-clause-size : goal.returns-in-Some-clause-size
returns-in-Some-clause-size c = sym (tag_mark c.args.octets.now (start_tag_view c.in-Some.tag) (sym c.in-Some.ensures.value))
