use Rattle.std.proofs.Common.{arith}
use Rattle.px_engine.proofs.Asked.{text_asks}
use Rattle.px_engine.proofs.text.caption_text.Goals as goal

pub returns-clause-asked : goal.returns-clause-asked
returns-clause-asked c =
    let sent = c.send_captions.ensures.text in
    let most = text_asks c.send_captions.result c.new-writer.result c.send_captions.new.writer _ c.new-writer.ensures sent.0 sent.1 in
    omega (arith, most, c.finish_in.ensures.asked)
