use Rattle.std.proofs.Common.{◌≡◌, ◌∙◌, false, subst, true}
use Rattle.std.specs.Str.{bytes_eq}
use Rattle.clap.specs.Words.{found_of, rows_of}
use Rattle.px_words.specs.Words.{CountsAllocFailureInWordsBy}
use Rattle.px_words.proofs.matching.Named.{other_asked, same_asked}
use Rattle.px_words.proofs.words.read_normalise.Goals as goal

pub returns-then-eq : goal.returns-then-eq
returns-then-eq c =
    let rows = rows_of (found_of c.args.inner.now) in
    let same : true ≡ bytes_eq c.in-Ok.file c.in-Ok-word_at.out = cc c.if-eq.ensures in
    record {
      asked = same_asked rows c.in-Ok.file c.in-Ok-word_at.out c.refuse.result c.in-Ok.ensures.word c.in-Ok-word_at.ensures.word
          same c.refuse.ensures.line;
      memory = subst (λ old. CountsAllocFailureInWordsBy c.refuse.result old c.refuse.new.memory.failed_allocations)
          (c.in-Ok-word_at.ensures.memory ∙ c.in-Ok.ensures.memory) c.refuse.ensures.memory;
    }

pub returns : goal.returns
returns c =
    let rows = rows_of (found_of c.args.inner.now) in
    let other : false ≡ bytes_eq c.in-Ok.file c.in-Ok-word_at.out = cc c.if-eq.ensures in
    record {
      asked = other_asked rows c.in-Ok.file c.in-Ok-word_at.out c.in-Ok.ensures.word c.in-Ok-word_at.ensures.word other;
      memory = c.in-Ok-word_at.ensures.memory ∙ c.in-Ok.ensures.memory;
    }
