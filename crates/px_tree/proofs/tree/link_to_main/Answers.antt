use Rattle.std.proofs.Common.{refl}
use Rattle.px_tree.proofs.reading.Named.{names_main}
use Rattle.px_tree.proofs.tree.link_to_main.Goals as goal

pub returns : goal.returns
returns c = names_main c.args.block.now c.args.order (record { at = c.number32.result; place = 4 }) c.number32.ensures refl
