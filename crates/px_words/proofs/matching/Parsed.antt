-- What a parse of the command implies for the meaning of its arguments.
use Rattle.std.proofs.Common.{◌≡◌, ◌∙◌, ◌==◌, ◌↔◌, Option, true, false, true≢false, List, [], ◌∷◌, length, map, ap, refl, subst, sym}
use Rattle.clap.specs.Words.{App, Row, Text, fault_of, is_simple_and_free, kind_of}
use Rattle.clap.specs.Words.{subcommand_of, subcommand_rows_of}
use Rattle.clap.specs.Kinds.{HasKind, Kinds}
use Rattle.clap.specs.declared.error.Error.{Error}
use Rattle.clap.specs.declared.error.ErrorKind.TheVariants as kind
use Rattle.clap.specs.declared.parser.matches.ArgMatches.{ArgMatches}
use Rattle.clap.proofs.OnLiterals.{clap_on_literals}
use Rattle.px_words.specs.declared.words.Words.{Words}
use Rattle.px_words.specs.declared.words.Words.TheVariants as words
use Rattle.px_words.specs.Words.{AreTaken, Asks, AsksFiles, IsFor, exifnorm}
use Rattle.px_words.specs.calls.Met.{IsTextForKind, IsText, AsksIn, IsMet}
use Rattle.px_words.proofs.WordLaws.{matched_files, of_error, of_match, of_none, of_text}
use Rattle.px_words.proofs.matching.Whole.{requirement_met}

-- the command is one whose matches and errors are specified
is_free : is_simple_and_free exifnorm ≡ true
unfolding clap_on_literals
is_free = refl

-- with arguments the result is not `Filter`
pub filter_not : {X : Type 0} (f : X → Text) (xs : List X) (w : Words) → false ≡ (length xs == 0) → (w ≡ words.Filter → ⊥)
    → map f xs ≡ [] ↔ w ≡ words.Filter
filter_not f [] w some other = absurd (true≢false (sym some))
filter_not f (x ∷ xs) w some other = (λ none. cc, λ is. absurd (other is))

pub asks_no_filter : (met : Option (Text × List Row)) (w : Words) → AsksFiles met w → w ≡ words.Filter → ⊥
asks_no_filter met w asks is = subst (AsksFiles met) is asks

pub decides_no_filter : (w : Words) → IsText w → w ≡ words.Filter → ⊥
decides_no_filter w reported is = subst IsText is reported

-- what clap states of the command that it got, of the command by its definition
module _ (ws : List Text) (app : App) (is : app ≡ exifnorm) where
  pub kinds_matched : (kinds : Kinds → Type 0) → (is_simple_and_free app ≡ true → kinds (fault_of app ws)) → kinds (fault_of exifnorm ws)
  kinds_matched kinds had = subst (λ (a : App). kinds (fault_of a ws)) is (had (ap is_simple_and_free is ∙ is_free))

module _ (ws : List Text) where
  -- a match
  module _ (m : ArgMatches) (none : fault_of exifnorm ws ≡ []) (same : subcommand_rows_of m ≡ subcommand_of exifnorm ws) where
    pub met_in : IsMet (subcommand_rows_of m)
    met_in = subst IsMet (sym same) (requirement_met ws none)

    pub subcommand_matched : (w : Words) → AsksIn (subcommand_rows_of m) w
        → Asks (subcommand_of exifnorm ws) w × IsFor (fault_of exifnorm ws) w × AsksFiles (subcommand_of exifnorm ws) w
    subcommand_matched w asks =
        let files = subst (λ r. AsksFiles r w) same (matched_files (subcommand_rows_of m) w asks.1) in
        (subst (λ r. Asks r w) same asks.0, of_match (fault_of exifnorm ws) (subcommand_of exifnorm ws) w none files, files)

  -- an error
  pub parse_failed : (e : Error) (w : Words) → HasKind (fault_of exifnorm ws) e → IsText w → IsTextForKind (kind_of e) w
      → (kind_of e ≡ kind.OutOfMemory → w ≡ words.Unread)
      → Asks (subcommand_of exifnorm ws) w × IsFor (fault_of exifnorm ws) w × (AreTaken ws → AsksFiles (subcommand_of exifnorm ws) w)
  parse_failed e w has reported reports memory = (
    of_text (subcommand_of exifnorm ws) w reported,
    of_error (fault_of exifnorm ws) e w has memory reported reports,
    λ taken. subst (AsksFiles (subcommand_of exifnorm ws)) (sym (memory (of_none (fault_of exifnorm ws) e taken has))) tt,
  )
