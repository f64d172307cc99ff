use Rattle.px_xmp_text.proofs.CharacterLaws.{characters_or_fault}
use Rattle.px_xmp_text.proofs.laws.characters_or_fault.Goals as goal

pub returns : goal.returns
returns c = characters_or_fault
