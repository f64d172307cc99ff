use Rattle.std.proofs.Common.{sym, refl, ◌∙◌, arith}
use Rattle.std.proofs.lemmas.Result.{err_from_is_err_and}
use Rattle.px_meaning.proofs.Added.{one_more}
use Rattle.px_meaning.proofs.writable.FieldLemmas.{at_tag_some, at_tag_gap, put_insert, in_order_insert}
use Rattle.px_meaning.proofs.fields.Fields.put_in.Goals as goal

pub invariant_of-self-in-Err : goal.invariant_of-self-in-Err
invariant_of-self-in-Err c =
    rw c.in_ok-insert-in-Err.ensures.items (in_order_insert _ _ _ _ c.self.invariant
    (rw c.as_slice.ensures.value at c.in-Err.ensures.absent))

pub returns-in-Ok-clause-there : goal.returns-in-Ok-clause-there
returns-in-Ok-clause-there c = λ _. (rw (← c.self.view_is) (at_tag_some _ _ _ (rw c.as_slice.ensures.value at c.in-Ok.ensures.found)), refl)

pub returns-in_ok-insert-in-Err-clause-fresh : goal.returns-in_ok-insert-in-Err-clause-fresh
returns-in_ok-insert-in-Err-clause-fresh c =
    let gap = rw c.as_slice.ensures.value at c.in-Err.ensures.absent in
    λ _. (
      rw (← c.self.view_is) (at_tag_gap _ _ _ gap),
      rw (← c.self.view_is) (c.in_ok-insert-in-Err.ensures.items ∙ sym (put_insert _ _ _ _ gap)),
    )

pub returns-in_err-insert-in-Err-clause-absent : goal.returns-in_err-insert-in-Err-clause-absent
returns-in_err-insert-in-Err-clause-absent c =
    let p = err_from_is_err_and c.from_residual.result c.from_residual.ensures.1 in
    let gap = rw c.as_slice.ensures.value at c.in-Err.ensures.absent in
    rw p.1 (rw (← c.self.view_is) (at_tag_gap _ _ _ gap))

pub returns-in-Ok-clause-asked : goal.returns-in-Ok-clause-asked
returns-in-Ok-clause-asked c =
    rw (← c.self.view_is) (rw (at_tag_some _ _ _ (rw c.as_slice.ensures.value at c.in-Ok.ensures.found)) (omega arith))

pub returns-in_ok-insert-in-Err-clause-asked : goal.returns-in_ok-insert-in-Err-clause-asked
returns-in_ok-insert-in-Err-clause-asked c =
    let gap = rw c.as_slice.ensures.value at c.in-Err.ensures.absent in
    rw (← c.self.view_is) (rw (at_tag_gap _ _ _ gap) (one_more _ _ _ _ _ _ (omega (arith, c.self.inside.list.ok.0)) c.self.inside.list.ok.1
    c.in_ok-insert-in-Err.ensures.fits c.in_ok-insert-in-Err.ensures.asked))

pub returns-in_err-insert-in-Err-clause-asked : goal.returns-in_err-insert-in-Err-clause-asked
returns-in_err-insert-in-Err-clause-asked c =
    let gap = rw c.as_slice.ensures.value at c.in-Err.ensures.absent in
    rw (← c.self.view_is) (rw (at_tag_gap _ _ _ gap) (one_more _ _ _ _ _ _ (omega (arith, c.self.inside.list.ok.0)) c.self.inside.list.ok.1
    c.in_err-insert-in-Err.ensures.fits c.in_err-insert-in-Err.ensures.asked))
