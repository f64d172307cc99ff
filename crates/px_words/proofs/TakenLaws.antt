-- The command accepts every name of a file.
use Rattle.std.proofs.Common.{◌∷◌, [], codes, refl}
use Rattle.clap.specs.Words.{Text}
use Rattle.clap.proofs.OnLiterals.{clap_on_literals}
use Rattle.px_words.specs.Words.{AreTaken, IsName}

pub show_taken : (file : Text) → IsName file → AreTaken (codes "show" ∷ file ∷ [])
unfolding clap_on_literals
show_taken [] name = refl
show_taken (x ∷ xs) name = simp name

pub check_taken : (file : Text) → IsName file → AreTaken (codes "check" ∷ file ∷ [])
unfolding clap_on_literals
check_taken [] name = refl
check_taken (x ∷ xs) name = simp name

pub captions_taken : (file : Text) → IsName file → AreTaken (codes "captions" ∷ file ∷ [])
unfolding clap_on_literals
captions_taken [] name = refl
captions_taken (x ∷ xs) name = simp name

pub normalise_taken : (file other : Text) → IsName file → IsName other → AreTaken (codes "normalise" ∷ file ∷ other ∷ [])
unfolding clap_on_literals
normalise_taken [] [] name other_name = refl
normalise_taken [] (y ∷ ys) name other_name = simp other_name
normalise_taken (x ∷ xs) [] name other_name = simp name
normalise_taken (x ∷ xs) (y ∷ ys) name other_name = simp (name, other_name)

pub compare_taken : (file other : Text) → IsName file → IsName other → AreTaken (codes "compare" ∷ file ∷ other ∷ [])
unfolding clap_on_literals
compare_taken [] [] name other_name = refl
compare_taken [] (y ∷ ys) name other_name = simp other_name
compare_taken (x ∷ xs) [] name other_name = simp name
compare_taken (x ∷ xs) (y ∷ ys) name other_name = simp (name, other_name)
