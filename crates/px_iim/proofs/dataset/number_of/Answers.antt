use Rattle.std.proofs.Common.{◌<◌, arith}
use Rattle.px_iim.proofs.reading.Octets.{number_more, number_below}
use Rattle.px_iim.proofs.dataset.number_of.Goals as goal

pub overflow_mul-number : goal.overflow_mul-number
overflow_mul-number c =
    let i : c.loop-octet.octet-index < 4 = omega (arith, c.requires, c.loop-octet-test.true) in
    let b = number_below c.loop-octet.octet-index c.args.octets.now i (λ k. (c.type_inv.octets k).fits) in
    record { fits = omega (arith, c.loop-octet.invariant) }

pub overflow_add-number : goal.overflow_add-number
overflow_add-number c =
    let i : c.loop-octet.octet-index < 4 = omega (arith, c.requires, c.loop-octet-test.true) in
    let b = number_below c.loop-octet.octet-index c.args.octets.now i (λ k. (c.type_inv.octets k).fits) in
    let o = (c.type_inv.octets c.loop-octet.octet-index).fits in
    record { fits = omega (arith, c.loop-octet.invariant, c.from.ensures) }

pub loop-octet-preserved : goal.loop-octet-preserved
loop-octet-preserved c =
    let i : c.loop-octet.octet-index < 4 = omega (arith, c.requires, c.loop-octet-test.true) in
    let m = number_more c.loop-octet.octet-index c.args.octets.now i in
    omega (arith, c.loop-octet.invariant, c.from.ensures)
