use Rattle.px_c.proofs.xmp.xmp_check_in.Goals as goal

pub returns-in-Err-Content-clause-refused : goal.returns-in-Err-Content-clause-refused
returns-in-Err-Content-clause-refused c is = (
  _,
  c.refuse.ensures.wrong is,
  (_, rw c.in-Err-Content.field-0-is at c.in-Err-Content.ensures.layer, c.refuse.ensures.stored),
  (rw c.in-Err-Content.field-0-is at c.in-Err-Content.ensures.refused) (c.refuse.ensures.wrong is),
)

pub returns-in-Err-Content-clause-rare : goal.returns-in-Err-Content-clause-rare
returns-in-Err-Content-clause-rare c is =
    (_, c.refuse.ensures.rare is, (_, rw c.in-Err-Content.field-0-is at c.in-Err-Content.ensures.layer, c.refuse.ensures.stored))

pub returns-in-Err-Content-clause-accepts : goal.returns-in-Err-Content-clause-accepts
returns-in-Err-Content-clause-accepts c packet = absurd ((rw c.in-Err-Content.field-0-is at c.in-Err-Content.ensures.accepts) packet)

pub returns-in-Err-Content-clause-own : goal.returns-in-Err-Content-clause-own
returns-in-Err-Content-clause-own c form = absurd ((rw c.in-Err-Content.field-0-is at c.in-Err-Content.ensures.own) form)
