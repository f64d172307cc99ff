use Rattle.std.proofs.Common.{sym}
use Rattle.px_xmp_document.proofs.DocumentLaws.{none_splits}
use Rattle.px_xmp_document.proofs.document.read_start.Goals as goal

pub returns-in-None-clause-parts : goal.returns-in-None-clause-parts
returns-in-None-clause-parts c = none_splits c.declarations_are_read.ensures c.args.octets.now (sym c.in-None.ensures.value)
