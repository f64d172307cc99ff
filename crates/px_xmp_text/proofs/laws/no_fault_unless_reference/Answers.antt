use Rattle.std.proofs.Common.{length, arith}
use Rattle.px_xmp_text.proofs.PieceLaws.{no_fault}
use Rattle.px_xmp_text.proofs.laws.no_fault_unless_reference.Goals as goal

pub returns : goal.returns
returns c = λ k x h. no_fault (length x) 0 k x (omega arith) h
