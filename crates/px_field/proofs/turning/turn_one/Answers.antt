use Rattle.std.proofs.Common.{arith, rules}
use Rattle.px_field.proofs.TurnLaws.{turned_ones}
use Rattle.px_field.proofs.turning.turn_one.Goals as goal

pub returns : goal.returns
returns c r o =
    let bytes = turned_ones r o c.args.count c.args.from.now (omega (arith, c.requires.from)) in
    rw bytes (search rules)
