use Rattle.px_xmp_document.proofs.PlainLaws.{plain_text}
use Rattle.px_xmp_document.proofs.laws.plain_spaces_are_texts.Goals as goal

pub returns : goal.returns
returns c = plain_text
