use Rattle.std.proofs.Common.{arith}
use Rattle.px_plans.proofs.plans.Asked.{piece_asks, piece_pays}
use Rattle.px_plans.proofs.building.bytes_of.Goals as goal

pub returns-clause-asked : goal.returns-clause-asked
returns-clause-asked c =
    let sent = c.write_piece.ensures in
    let most = piece_asks c.write_piece.result c.new-writer.result c.write_piece.new.writer _ c.new-writer.ensures sent.0 sent.1 in
    omega (arith, most, c.finish_in.ensures.asked)

pub returns-clause-paid : goal.returns-clause-paid
returns-clause-paid c =
    let sent = c.write_piece.ensures in
    piece_pays c.write_piece.result c.new-writer.result c.write_piece.new.writer _ c.new-writer.ensures sent.0 sent.1
    c.finish_in.result _ _ c.finish_in.ensures.which c.finish_in.ensures.asked
