-- When the result for the arguments is a text.
use Rattle.std.proofs.Common.{◌≡◌, inl, inr, List, [], Option, subst}
use Rattle.clap.specs.Words.{Row, Text, kind_of}
use Rattle.clap.specs.Kinds.{HasKind, IsAmong, Kinds}
use Rattle.clap.specs.declared.error.Error.{Error}
use Rattle.clap.specs.declared.error.ErrorKind.TheVariants as kind
use Rattle.px_words.specs.declared.words.Words.{Words}
use Rattle.px_words.specs.declared.words.Words.TheVariants as words
use Rattle.px_words.specs.Words.{Asks, AsksFiles, IsFor, ShowsPlain}
use Rattle.px_words.specs.calls.Met.{AsksMatched, IsTextForKind, IsText}

-- a match has no text except for one name for two files
pub of_match : (kinds : Kinds) (met : Option (Text × List Row)) (w : Words) → kinds ≡ [] → AsksFiles met w → IsFor kinds w
of_match kinds met words.Filter none h = tt
of_match kinds met (words.One what file) none h = none
of_match kinds met (words.Normalise file out) none h = none
of_match kinds met (words.Compare first second) none h = none
of_match kinds met (words.Help text) none h = absurd h
of_match kinds met (words.Refused text) none h = inl (none, h.2)
of_match kinds met words.NoMemory none h = tt
of_match kinds met words.Unread none h = tt

-- an error has a text of its kind, which is among the possible kinds, or means out of memory
pub of_error : (kinds : Kinds) (e : Error) (w : Words) → HasKind kinds e → (kind_of e ≡ kind.OutOfMemory → w ≡ words.Unread)
    → IsText w → IsTextForKind (kind_of e) w → IsFor kinds w
of_error kinds e words.Filter h memory reported k = tt
of_error kinds e (words.One what file) h memory reported k = absurd reported
of_error kinds e (words.Normalise file out) h memory reported k = absurd reported
of_error kinds e (words.Compare first second) h memory reported k = absurd reported
of_error kinds e words.NoMemory h memory reported k = tt
of_error kinds e words.Unread h memory reported k = tt
of_error kinds e (words.Help text) (inl lacking) memory reported k = let bad : words.Help text ≡ words.Unread = memory lacking in absurd (cc)
of_error kinds e (words.Help text) (inr among) memory reported k = (kind_of e, among, k)
of_error kinds e (words.Refused text) (inl lacking) memory reported k =
    let bad : words.Refused text ≡ words.Unread = memory lacking in absurd (cc)
of_error kinds e (words.Refused text) (inr among) memory reported k = inr (kind_of e, among, k)

-- a text names no file
pub of_text : (met : Option (Text × List Row)) (w : Words) → IsText w → Asks met w
of_text met words.Filter reported = tt
of_text met (words.One what file) reported = absurd reported
of_text met (words.Normalise file out) reported = absurd reported
of_text met (words.Compare first second) reported = absurd reported
of_text met (words.Help text) reported = tt
of_text met (words.Refused text) reported = tt
of_text met words.NoMemory reported = tt
of_text met words.Unread reported = tt

-- what a match gives
pub matched_files : (met : Option (Text × List Row)) (w : Words) → AsksMatched met w → AsksFiles met w
matched_files met words.Filter h = h
matched_files met (words.One what file) h = h
matched_files met (words.Normalise file out) h = h
matched_files met (words.Compare first second) h = h
matched_files met (words.Help text) h = h
matched_files met (words.Refused text) h = h
matched_files met words.NoMemory h = h
matched_files met words.Unread h = absurd h

pub matched_read : (met : Option (Text × List Row)) (w : Words) → AsksMatched met w → w ≡ words.Unread → ⊥
matched_read met w asks is = subst (AsksMatched met) is asks

pub matched_plain : (met : Option (Text × List Row)) (w : Words) → AsksMatched met w → ShowsPlain w
matched_plain met words.Filter h = tt
matched_plain met (words.One what file) h = tt
matched_plain met (words.Normalise file out) h = tt
matched_plain met (words.Compare first second) h = tt
matched_plain met (words.Help text) h = absurd h
matched_plain met (words.Refused text) h = inl h.2
matched_plain met words.NoMemory h = tt
matched_plain met words.Unread h = tt

-- without a kind, an allocation failed
pub of_none : (kinds : Kinds) (e : Error) → kinds ≡ [] → HasKind kinds e → kind_of e ≡ kind.OutOfMemory
of_none kinds e none (inl lacking) = lacking
of_none kinds e none (inr among) = absurd (subst (IsAmong (kind_of e)) none among)
