-- What the name of the matched subcommand implies for its arguments and their meaning.
use Rattle.std.proofs.Common.{◌≡◌, ◌⊎◌, ◌∙◌, ◌||◌, Bool, true, false, true≢false, List, Some, ap, codes, inl, inr, refl, subst, sym}
use Rattle.std.proofs.lemmas.Slice.Eq.{bytes_eq-Decides}
use Rattle.std.specs.Str.{bytes_eq}
use Rattle.clap.specs.Walk.{Row, Text, first_of}
use Rattle.px_words.specs.declared.words.Words.{Words}
use Rattle.px_words.specs.declared.words.Words.TheVariants as words
use Rattle.px_words.specs.Words.{out_is_file}
use Rattle.px_words.specs.calls.Met.{AsksIn, IsMet, IsThere, takes_file}

names_equal : (name word : Text) → true ≡ bytes_eq name word → name ≡ word
names_equal name word is = (bytes_eq-Decides name word).0 (sym is)

met_as : (name word : Text) (rows : List Row) → true ≡ bytes_eq name word → IsMet (Some (name, rows)) → IsMet (Some (word, rows))
met_as name word rows is = subst (λ (n : Text). IsMet (Some (n, rows))) (names_equal name word is)

-- the meaning of the arguments under the matched name
pub asked_as : (name word : Text) (rows : List Row) (w : Words) → true ≡ bytes_eq name word → AsksIn (Some (word, rows)) w
    → AsksIn (Some (name, rows)) w
asked_as name word rows w is = subst (λ (n : Text). AsksIn (Some (n, rows)) w) (sym (names_equal name word is))

-- a subcommand that takes one file has it
has_file : (name : Text) (rows : List Row) → takes_file name ≡ true → IsMet (Some (name, rows)) → IsThere (codes "FILE") rows
has_file name rows takes (inl h) = h.1
has_file name rows takes (inr (inl h)) = h.1
has_file name rows takes (inr (inr h)) = absurd (true≢false (sym (subst (λ (n : Text). takes_file n ≡ true) h.0 takes)))

pub file_there : (name word : Text) (rows : List Row) → takes_file word ≡ true → true ≡ bytes_eq name word → IsMet (Some (name, rows))
    → IsThere (codes "FILE") rows
file_there name word rows takes is met = has_file word rows takes (met_as name word rows is met)

-- normalise has its two files, and so has compare
has_out : (rows : List Row) → IsMet (Some (codes "normalise", rows)) → IsThere (codes "FILE") rows × IsThere (codes "OUT") rows
has_out rows (inl h) = absurd (true≢false (sym h.0))
has_out rows (inr (inl h)) = (h.1, h.2)
has_out rows (inr (inr h)) = absurd (true≢false (sym (ap (bytes_eq (codes "compare")) h.0)))

pub out_there : (name : Text) (rows : List Row) → true ≡ bytes_eq name (codes "normalise") → IsMet (Some (name, rows))
    → IsThere (codes "FILE") rows × IsThere (codes "OUT") rows
out_there name rows is met = has_out rows (met_as name (codes "normalise") rows is met)

has_both : (rows : List Row) → IsMet (Some (codes "compare", rows)) → IsThere (codes "FIRST") rows × IsThere (codes "SECOND") rows
has_both rows (inl h) = absurd (true≢false (sym h.0))
has_both rows (inr (inl h)) = absurd (true≢false (sym (ap (bytes_eq (codes "normalise")) h.0)))
has_both rows (inr (inr h)) = (h.1, h.2)

pub both_there : (name : Text) (rows : List Row) → true ≡ bytes_eq name (codes "compare") → IsMet (Some (name, rows))
    → IsThere (codes "FIRST") rows × IsThere (codes "SECOND") rows
both_there name rows is met = has_both rows (met_as name (codes "compare") rows is met)

-- no other subcommand was matched
none_of : (a b c : Bool) → false ≡ a → false ≡ b → false ≡ c → (a || (b || (c || false))) ≡ false
none_of a b c x y z = rw (← x, ← y, ← z) refl

pub no_other : (name : Text) (rows : List Row) → false ≡ bytes_eq name (codes "show") → false ≡ bytes_eq name (codes "check")
    → false ≡ bytes_eq name (codes "captions") → false ≡ bytes_eq name (codes "normalise") → false ≡ bytes_eq name (codes "compare")
    → IsMet (Some (name, rows)) → ⊥
no_other name rows a b c d e (inl h) = true≢false (sym h.0
    ∙ none_of (bytes_eq name (codes "show")) (bytes_eq name (codes "check")) (bytes_eq name (codes "captions")) a b c)
no_other name rows a b c d e (inr (inl h)) = true≢false (sym (d ∙ ap (λ (n : Text). bytes_eq n (codes "normalise")) h.0))
no_other name rows a b c d e (inr (inr h)) = true≢false (sym (e ∙ ap (λ (n : Text). bytes_eq n (codes "compare")) h.0))

-- normalise with one name for both files is refused, or an allocation failed
pub same_asked : (rows : List Row) (file out : Text) (w : Words) → first_of (codes "FILE") rows ≡ Some file
    → first_of (codes "OUT") rows ≡ Some out → true ≡ bytes_eq file out → (w ≡ words.NoMemory) ⊎ (w ≡ words.Refused out_is_file)
    → AsksIn (Some (codes "normalise", rows)) w
same_asked rows file out w at_file at_out same (inl h) = subst (AsksIn (Some (codes "normalise", rows))) (sym h) (tt, tt)
same_asked rows file out w at_file at_out same (inr h) = subst (AsksIn (Some (codes "normalise", rows))) (sym h)
    (tt, (file, (rows, refl, at_file, at_out ∙ ap Some (sym (names_equal file out same))), refl))

-- normalise with two names
pub other_asked : (rows : List Row) (file out : Text) → first_of (codes "FILE") rows ≡ Some file → first_of (codes "OUT") rows ≡ Some out
    → false ≡ bytes_eq file out → AsksIn (Some (codes "normalise", rows)) (words.Normalise file out)
other_asked rows file out at_file at_out other =
    (((rows, refl, at_file, at_out), λ same. true≢false (sym (other ∙ (bytes_eq-Decides file out).1 same))), tt)
