use Rattle.std.proofs.Common.{arith, pow_pos, pow_mono}
use Rattle.px_bytes.proofs.marks.BitLaws.{shl_one, shr_ones}
use Rattle.px_bytes.proofs.ranges.bits.Goals as goal

pub overflow_sub-result-3 : goal.overflow_sub-result-3
overflow_sub-result-3 c =
    let low = c.args.low in
    let high = c.args.high in
    omega (
      arith,
      shl_one low (omega (arith, c.requires.some, c.requires.bound)),
      shr_ones high c.requires.bound,
      pow_mono {i = low} {j = high} (omega (arith, c.requires.some)),
    )

pub returns : goal.returns
returns c =
    let low = c.args.low in
    let high = c.args.high in
    omega (arith, shl_one low (omega (arith, c.requires.some, c.requires.bound)), shr_ones high c.requires.bound, pow_pos low, pow_pos high)
