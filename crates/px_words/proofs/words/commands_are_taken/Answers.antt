use Rattle.std.proofs.Common.{refl}
use Rattle.clap.proofs.OnLiterals.{clap_on_literals}
use Rattle.px_words.specs.Words.{TakesCommands}
use Rattle.px_words.proofs.TakenLaws.{captions_taken, check_taken, compare_taken, normalise_taken, show_taken}
use Rattle.px_words.proofs.words.commands_are_taken.Goals as goal

all_taken : TakesCommands
unfolding clap_on_literals
all_taken file other = (
  λ name. (show_taken file name, check_taken file name, captions_taken file name),
  λ name other_name. (normalise_taken file other name other_name, compare_taken file other name other_name),
  refl,
  refl,
  refl,
  refl,
  refl,
)

pub returns : goal.returns
returns c = all_taken
