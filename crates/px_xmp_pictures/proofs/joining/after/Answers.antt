use Rattle.std.proofs.Common.{◌∙◌, sym}
use Rattle.px_xmp_pictures.proofs.CutLaws.{first_cut, found_different}
use Rattle.px_xmp_pictures.proofs.joining.after.Goals as goal

pub returns-then-ne : goal.returns-then-ne
returns-then-ne c rest e =
    found_different c.split_at.result.0.now c.args.first.now (sym c.if-ne.true ∙ c.ne.ensures)
    (c.split_at.ensures.front ∙ first_cut c.args.octets.now c.args.first.now rest e)
