use Rattle.px_engine.proofs.Printed.{reported_text}
use Rattle.px_engine.proofs.text.write_captions.Goals as goal

pub returns-clause-text : goal.returns-clause-text
returns-clause-text g c =
    reported_text c.send_captions.result c.as_fault.result _ _ _ _ _ c.as_fault.ensures
    c.send_captions.ensures.text.0 c.send_captions.ensures.text.1
