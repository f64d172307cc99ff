use Rattle.std.proofs.Common.{arith}
use Rattle.px_tree.proofs.tables.open_table.Goals as goal

pub returns-in_err-claim_range-clause-asked : goal.returns-in_err-claim_range-clause-asked
returns-in_err-claim_range-clause-asked c =
    let asked = c.in_err-claim_range.ensures.asked in
    omega arith

pub returns-in_err-claim_range-clause-below : goal.returns-in_err-claim_range-clause-below
returns-in_err-claim_range-clause-below c =
    let below = c.in_err-claim_range.ensures.below in
    omega arith

pub returns-clause-table : goal.returns-clause-table
returns-clause-table c =
    let claimed = c.in_ok-claim_range.ensures.claimed in
    omega arith

pub returns-clause-asked : goal.returns-clause-asked
returns-clause-asked c =
    let claimed = c.in_ok-claim_range.ensures.claimed in
    omega arith

pub returns-clause-below : goal.returns-clause-below
returns-clause-below c =
    let below = c.in_ok-claim_range.ensures.below in
    omega arith
