use Rattle.px_xmp_pictures.proofs.AnswerLaws.{xmp_known}
use Rattle.px_xmp_pictures.proofs.reading.read_xmp.Goals as goal

pub returns-in-Ok-xmp-clause-read : goal.returns-in-Ok-xmp-clause-read
returns-in-Ok-xmp-clause-read c =
    xmp_known c.front-front.result c.in-Ok.head c.args.bytes.now c.in-Ok-xmp.xmp c.front-front.ensures.value c.in-Ok.ensures
    c.in-Ok-xmp.ensures.read
