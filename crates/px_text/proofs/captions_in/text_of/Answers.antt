use Rattle.std.proofs.Common.{arith}
use Rattle.px_text.proofs.Shown.{text_bytes}
use Rattle.px_text.proofs.captions_in.text_of.Goals as goal

pub returns : goal.returns
returns c =
    text_bytes c.args.value.now c.bytes.result (grind (arith, c.if-not-is_text.false, c.is_text.ensures, c.kind.ensures.kind))
    c.bytes.ensures.which c.bytes.ensures.elements
