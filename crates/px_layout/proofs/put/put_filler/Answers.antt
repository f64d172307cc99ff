use Rattle.std.proofs.Common.{rules}
use Rattle.std.proofs.lemmas.List.{take-replicate}
use Rattle.px_layout.proofs.put.put_filler.Goals as goal

pub returns : goal.returns
returns g c =
    (rw (← take-replicate c.args.count 4 c.args.filler c.requires.most) (c.put.ensures.bytes, c.put.ensures.waits), search rules)
