use Rattle.std.proofs.Common.{rules}
use Rattle.px_iim.specs.Record.{normal_iim}
use Rattle.px_engine.proofs.Space.{filling_now_form}
use Rattle.px_engine.proofs.normal.fill_record.Goals as goal

pub returns : goal.returns
returns c =
    let all = filling_now_form c.send_record.result c.new-writer.result c.send_record.new.writer _ _ (normal_iim c.args.iim.now)
    c.requires c.new-writer.ensures.same c.new-writer.ensures.space c.new-writer.ensures.none c.new-writer.ensures.refusals
    c.send_record.ensures.0 c.send_record.ensures.1 in
    search rules
