use Rattle.px_xmp_marks.proofs.InstructionLaws.{only_instructions_are_read}
use Rattle.px_xmp_marks.proofs.laws.only_instructions_are_read.Goals as goal

pub returns : goal.returns
returns c = only_instructions_are_read
