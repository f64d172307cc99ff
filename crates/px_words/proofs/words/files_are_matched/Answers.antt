use Rattle.px_words.proofs.MatchLaws.{captions_has, check_has, compare_has, normalise_has, show_has}
use Rattle.px_words.proofs.words.files_are_matched.Goals as goal

pub returns : goal.returns
returns c file other = (
  λ name. (show_has file name, check_has file name, captions_has file name),
  λ name other_name. (normalise_has file other name other_name, compare_has file other name other_name),
)
