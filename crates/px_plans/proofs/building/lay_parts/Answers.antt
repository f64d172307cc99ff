use Rattle.px_meaning.specs.calls.Seen.{thumb_of}
use Rattle.px_plans.proofs.plans.Pieces.{parts_over}
use Rattle.px_plans.proofs.building.lay_parts.Goals as goal

pub returns-clause-bytes : goal.returns-clause-bytes
returns-clause-bytes c =
    parts_over c.args.layout.now c.args.block.now c.lay_all_strips.new.block c.lay_jpeg.new.block (thumb_of c.args.thumb.now)
    c.lay_all_strips.ensures.len
    c.lay_all_strips.ensures.bytes c.lay_jpeg.ensures.bytes
