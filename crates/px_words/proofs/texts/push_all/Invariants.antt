use Rattle.std.proofs.Common.{string_bytes}
use Rattle.px_words.specs.Words.{IsPlain}
use Rattle.px_words.proofs.texts.push_all.Given as goal

abbrev pub invariant-loop-c : goal.invariant-loop-c
invariant-loop-c l =
    (goal.iterator-loop-c).can_next l.c-iterator × (goal.iterator-loop-c).is_finite l.c-iterator × IsPlain (string_bytes l.text)
