use Rattle.px_meaning.proofs.writable.WritableLemmas.{stands_alone_lem}
use Rattle.px_meaning.proofs.fitting.is_alone.Goals as goal

pub returns-in-Some : goal.returns-in-Some
returns-in-Some c = stands_alone_lem _ _ _ _ _ _ c.in-Some.is c.is_none.ensures c.get.ensures
