use Rattle.std.proofs.Common.{rules}
use Rattle.px_plans.proofs.put_table.put_next.Goals as goal

pub returns-in-Main : goal.returns-in-Main
returns-in-Main g c =
    (rw c.in-Main.is c.put_next_of_main.ensures.0, search rules)
