use Rattle.std.proofs.Common.{arith}
use Rattle.px_iim.specs.lemmas.BoundLaws.{length_count_short, length_count_long}
use Rattle.px_iim.proofs.length.head_len.Goals as goal

pub returns-then-count-lt-TOP_BIT-clause-value : goal.returns-then-count-lt-TOP_BIT-clause-value
returns-then-count-lt-TOP_BIT-clause-value c = let e = length_count_short c.args.count c.if-count-lt-TOP_BIT.true in omega arith

pub returns-clause-value : goal.returns-clause-value
returns-clause-value c = let e = length_count_long c.args.count c.if-count-lt-TOP_BIT.false in omega arith
