use Rattle.std.proofs.Common.{arith}
use Rattle.px_layout.proofs.writing.Beginnings.{values_here}
use Rattle.px_layout.proofs.starts.after_values.Goals as goal

pub returns-in_default : goal.returns-in_default
returns-in_default c = let s = values_here c.args.entries.now c.loop-i.i _ c.at-entry.ensures.entry in let l = c.loop-i.invariant.left in
    let b = c.in_default.ensures in omega arith

pub loop-i-preserved : goal.loop-i-preserved
loop-i-preserved c =
    let s = values_here c.args.entries.now c.loop-i.i _ c.at-entry.ensures.entry in let l =
    c.loop-i.invariant.left in let b = c.in-Some.ensures in
    record { left = (let e = b.0 in omega arith); most = b.1 }
