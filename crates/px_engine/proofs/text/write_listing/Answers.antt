use Rattle.px_engine.proofs.Printed.{reported_text}
use Rattle.px_engine.proofs.text.write_listing.Goals as goal

pub returns-clause-text : goal.returns-clause-text
returns-clause-text g c =
    reported_text c.send_listing.result c.as_fault.result _ _ _ _ _ c.as_fault.ensures
    c.send_listing.ensures.text.0 c.send_listing.ensures.text.1
