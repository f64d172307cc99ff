use Rattle.std.proofs.Common.{sym}
use Rattle.px_jpeg.proofs.PieceLaws.{other_marker}
use Rattle.px_jpeg.proofs.pieces.segment_kind.Goals as goal

pub returns-clause-value : goal.returns-clause-value
returns-clause-value c = sym (other_marker c.args.code c.args.octets.now c.if-code-eq-APP1.false c.if-code-eq-APP13.false)
