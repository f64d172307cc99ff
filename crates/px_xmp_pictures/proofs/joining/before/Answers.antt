use Rattle.std.proofs.Common.{◌∙◌, sym}
use Rattle.px_xmp_pictures.proofs.CutLaws.{last_cut, found_different}
use Rattle.px_xmp_pictures.proofs.joining.before.Goals as goal

pub returns-then-ne : goal.returns-then-ne
returns-then-ne c rest e =
    found_different c.split_at.result.1.now c.args.last.now (sym c.if-ne.true ∙ c.ne.ensures)
    (c.split_at.ensures.back ∙ last_cut c.args.octets.now rest c.args.last.now e)
