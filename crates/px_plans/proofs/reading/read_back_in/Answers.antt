use Rattle.px_plans.proofs.plans.Back.{reads_back}
use Rattle.px_plans.proofs.reading.read_back_in.Goals as goal

pub returns-clause-back : goal.returns-clause-back
returns-clause-back c =
    reads_back _ _ _ _ c.read_block_in.ensures.means c.read_block_in.ensures.refused c.read_block_in.ensures.memory
