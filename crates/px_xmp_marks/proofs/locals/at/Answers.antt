use Rattle.std.proofs.lemmas.List.{drop_more}
use Rattle.px_xmp_marks.proofs.locals.at.Goals as goal

pub returns : goal.returns
returns c = drop_more c.args.attributes.now c.args.n _ c.requires
