-- The match of a command has the files that its arguments name.
use Rattle.std.proofs.Common.{◌∷◌, [], codes, refl}
use Rattle.clap.specs.Words.{Text, subcommand_of}
use Rattle.clap.proofs.OnLiterals.{clap_on_literals}
use Rattle.px_words.specs.Words.{Has, HasBoth, IsName, exifnorm}

pub show_has : (file : Text) → IsName file
    → Has (subcommand_of exifnorm (codes "show" ∷ file ∷ [])) (codes "show") (codes "FILE") file
unfolding clap_on_literals
show_has [] name = (_, refl, refl)
show_has (x ∷ xs) name = simp name (_, refl, refl)

pub check_has : (file : Text) → IsName file
    → Has (subcommand_of exifnorm (codes "check" ∷ file ∷ [])) (codes "check") (codes "FILE") file
unfolding clap_on_literals
check_has [] name = (_, refl, refl)
check_has (x ∷ xs) name = simp name (_, refl, refl)

pub captions_has : (file : Text) → IsName file
    → Has (subcommand_of exifnorm (codes "captions" ∷ file ∷ [])) (codes "captions") (codes "FILE") file
unfolding clap_on_literals
captions_has [] name = (_, refl, refl)
captions_has (x ∷ xs) name = simp name (_, refl, refl)

pub normalise_has : (file other : Text) → IsName file → IsName other
    → HasBoth (subcommand_of exifnorm (codes "normalise" ∷ file ∷ other ∷ [])) (codes "normalise") (codes "FILE") file (codes "OUT") other
unfolding clap_on_literals
normalise_has [] [] name other_name = (_, refl, refl, refl)
normalise_has [] (y ∷ ys) name other_name = simp other_name (_, refl, refl, refl)
normalise_has (x ∷ xs) [] name other_name = simp name (_, refl, refl, refl)
normalise_has (x ∷ xs) (y ∷ ys) name other_name = simp (name, other_name) (_, refl, refl, refl)

pub compare_has : (file other : Text) → IsName file → IsName other
    → HasBoth (subcommand_of exifnorm (codes "compare" ∷ file ∷ other ∷ [])) (codes "compare") (codes "FIRST") file (codes "SECOND") other
unfolding clap_on_literals
compare_has [] [] name other_name = (_, refl, refl, refl)
compare_has [] (y ∷ ys) name other_name = simp other_name (_, refl, refl, refl)
compare_has (x ∷ xs) [] name other_name = simp name (_, refl, refl, refl)
compare_has (x ∷ xs) (y ∷ ys) name other_name = simp (name, other_name) (_, refl, refl, refl)
