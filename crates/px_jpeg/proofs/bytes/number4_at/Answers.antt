use Rattle.std.proofs.Common.{length, ap, ◌∙◌, arith, length-drop}
use Rattle.px_jpeg.proofs.bytes.number4_at.Goals as goal

pub number4-requires : goal.number4-requires
number4-requires c = omega (arith, ap length c.rest.ensures ∙ length-drop c.args.at c.args.octets.now)
