use Rattle.std.proofs.Common.{arith}
use Rattle.px_plans.proofs.plans.Built.{puts_mid}
use Rattle.px_plans.proofs.building.put_at.Goals as goal

pub returns-clause-bytes : goal.returns-clause-bytes
returns-clause-bytes c =
    puts_mid c.args.block.now c.args.at _ c.args.bytes.now c.copy_from_slice.new.self c.copy_from_slice.ensures.after (omega arith)
    c.requires
