use Rattle.px_runs.proofs.lines.put_line.Goals as goal

pub returns-in-NormalTooLong : goal.returns-in-NormalTooLong
returns-in-NormalTooLong g c = rw c.in-NormalTooLong.is c.put_ended.ensures

pub returns-in-OutOfMemory : goal.returns-in-OutOfMemory
returns-in-OutOfMemory g c = rw c.in-OutOfMemory.is c.put_ended-in-OutOfMemory.ensures

pub returns-in-ReadFailed : goal.returns-in-ReadFailed
returns-in-ReadFailed g c = rw c.in-ReadFailed.is c.put_ended-in-ReadFailed.ensures

pub returns-in-WriteFailed : goal.returns-in-WriteFailed
returns-in-WriteFailed g c = rw c.in-WriteFailed.is c.put_ended-in-WriteFailed.ensures
