use Rattle.std.proofs.Common.{sym}
use Rattle.px_xmp_marks.specs.Declarations.{declaration_view}
use Rattle.px_xmp.proofs.PacketLaws.{some_splits, none_splits}
use Rattle.px_xmp.proofs.packet.declaration_len.Goals as goal

pub returns-in-Some-clause-parts : goal.returns-in-Some-clause-parts
returns-in-Some-clause-parts c =
    some_splits c.only_declarations_are_read.ensures c.args.document.now (declaration_view c.in-Some.declaration) (sym c.in-Some.ensures.value)

pub returns-in-None-clause-parts : goal.returns-in-None-clause-parts
returns-in-None-clause-parts c = none_splits c.declarations_are_read.ensures c.args.document.now (sym c.in-None.ensures.value)
