use Rattle.px_xmp_marks.proofs.InstructionLaws.{instructions_are_read}
use Rattle.px_xmp_marks.proofs.laws.instructions_are_read.Goals as goal

pub returns : goal.returns
returns c = instructions_are_read
