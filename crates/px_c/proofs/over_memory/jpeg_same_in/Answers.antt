use Rattle.std.proofs.Common.{refl}
use Rattle.px_c.proofs.over_memory.jpeg_same_in.Goals as goal

pub returns-clause-asked : goal.returns-clause-asked
returns-clause-asked c = c.compare_pictures_in.ensures.asked_for_all refl
