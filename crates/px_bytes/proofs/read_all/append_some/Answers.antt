use Rattle.std.proofs.Common.{ℕ, arith}
use Rattle.std.proofs.lemmas.List.{length-take}
use Rattle.px_bytes.proofs.Growth.{read_same}
use Rattle.px_bytes.proofs.read_all.append_some.Goals as goal

pub returns-in_err-reserve_more-clause-lacking : goal.returns-in_err-reserve_more-clause-lacking
returns-in_err-reserve_more-clause-lacking g c = λ before had.
    let few = c.in_ok-n.ensures.bound in
    let asked = c.in_err-reserve_more.ensures.lacking before had in
    omega arith

pub returns-clause-asked : goal.returns-clause-asked
returns-clause-asked g c = λ before had.
    let few = c.in_ok-n.ensures.bound in
    let space = c.in_ok-reserve_more.ensures.space in
    let longer = c.in_ok-extend_from_slice.ensures.len in
    let len = c.in_ok-reserve_more.ensures.len in
    let asked = c.in_ok-extend_from_slice.ensures.fits (omega (arith, length-take {A = ℕ})) in
    read_same _ _ _ _ _ _ _ _ (c.in_ok-reserve_more.ensures.asked before had) (omega (arith, length-take {A = ℕ}))
    c.in_ok-extend_from_slice.ensures.capacity asked

pub returns-clause-lacking : goal.returns-clause-lacking
returns-clause-lacking g c = λ before had.
    let few = c.in_ok-n.ensures.bound in
    let space = c.in_ok-reserve_more.ensures.space in
    let most = c.in_ok-reserve_more.ensures.lacking before had in
    let len = c.in_ok-reserve_more.ensures.len in
    let asked = c.in_ok-extend_from_slice.ensures.fits (omega (arith, length-take {A = ℕ})) in
    omega arith
