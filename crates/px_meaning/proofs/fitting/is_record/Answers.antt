use Rattle.std.proofs.Common.{sym}
use Rattle.px_meaning.proofs.writable.WritableLemmas.{means_at}
use Rattle.px_meaning.proofs.fitting.is_record.Goals as goal

pub returns-in-Of : goal.returns-in-Of
returns-in-Of c = means_at _ _ _ c.in-Of.form c.in-Some.ensures.elements (sym c.in-Of.ensures.kind) c.is_record_in.ensures
