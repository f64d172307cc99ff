use Rattle.px_engine.proofs.meaning.judge_block.Goals as goal

pub returns-in-Exif-clause-meaning : goal.returns-in-Exif-clause-meaning
returns-in-Exif-clause-meaning c = rw c.in-Exif.is c.judge_exif.ensures.meaning

pub returns-in-Exif-clause-refused : goal.returns-in-Exif-clause-refused
returns-in-Exif-clause-refused c = rw c.in-Exif.is c.judge_exif.ensures.refused

pub returns-in-Iim-clause-meaning : goal.returns-in-Iim-clause-meaning
returns-in-Iim-clause-meaning c = rw c.in-Iim.is c.judge_record.ensures.meaning

pub returns-in-Iim-clause-refused : goal.returns-in-Iim-clause-refused
returns-in-Iim-clause-refused c = rw c.in-Iim.is (c.judge_record.ensures.refused c.args.memory.now.failed_allocations)
