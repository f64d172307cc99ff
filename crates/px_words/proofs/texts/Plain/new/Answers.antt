use Rattle.std.proofs.Common.{subst, sym}
use Rattle.px_words.specs.Words.{IsPlain, Nothing}
use Rattle.px_words.proofs.texts.Plain.new.Goals as goal

pub invariant_of-result : goal.invariant_of-result
invariant_of-result c = subst IsPlain (sym c.text.ensures.bytes) Nothing
