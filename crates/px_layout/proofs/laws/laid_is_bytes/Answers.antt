use Rattle.px_layout.specs.lemmas.ByteLaws.{laid_is_bytes as bytes}
use Rattle.px_layout.proofs.laws.laid_is_bytes.Goals as goal

pub returns : goal.returns
returns c = bytes
