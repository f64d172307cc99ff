use Rattle.std.proofs.Common.{inl, inr, refl}
use Rattle.px_iim.proofs.write.write_iim.Goals as goal

pub returns-in_err-len-clause-once : goal.returns-in_err-len-clause-once
returns-in_err-len-clause-once g c = λ short. (c.write_iim_part.new.writer, c.in_err-len.ensures.once short, inl refl)

pub returns-in_err-flush_all-clause-once : goal.returns-in_err-flush_all-clause-once
returns-in_err-flush_all-clause-once g c = λ short.
    (c.write_iim_part.new.writer, c.in_ok-len.ensures.once short, inr c.in_err-flush_all.ensures.call)

pub returns-clause-once : goal.returns-clause-once
returns-clause-once g c = λ short.
    (c.write_iim_part.new.writer, c.in_ok-len.ensures.once short, inr c.in_ok-flush_all.ensures.call)
