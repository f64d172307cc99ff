-- The content of a match of the command: one of its subcommands, with each required argument.
use Rattle.std.specs.Prelude.{◌≡◌, ◌⊎◌, Bool, true, is_some, List, [], ◌∷◌, Option, Some, None, codes}
use Rattle.std.specs.List.{list_any}
use Rattle.std.specs.Str.{bytes_eq}
use Rattle.clap.specs.Words.{Row, Text, first_of}
use Rattle.std.specs.Prelude.{⊤}
use Rattle.clap.specs.declared.error.ErrorKind.{ErrorKind}
use Rattle.px_words.specs.declared.words.Words.{Words}
use Rattle.px_words.specs.declared.words.Words.TheVariants as words
use Rattle.px_words.specs.Words.{Asks, AsksFiles}
use Rattle.px_words.specs.Words.{IsShown}

-- the rows have an argument with this id
abbrev pub IsThere : Text → List Row → Type 0
IsThere id rows = is_some (first_of id rows) ≡ true

-- the subcommand takes one file
abbrev pub takes_file : Text → Bool
takes_file name = list_any (bytes_eq name) (codes "show" ∷ codes "check" ∷ codes "captions" ∷ [])

-- a subcommand of the command was matched, with its arguments
abbrev pub IsMet : Option (Text × List Row) → Type 0
IsMet None = ⊥
IsMet (Some (name, rows)) = ((takes_file name ≡ true) × IsThere (codes "FILE") rows)
    ⊎ (((name ≡ codes "normalise") × IsThere (codes "FILE") rows × IsThere (codes "OUT") rows)
    ⊎ ((name ≡ codes "compare") × IsThere (codes "FIRST") rows × IsThere (codes "SECOND") rows))

-- of a match, clap did not run out of memory
abbrev pub AsksMatched : Option (Text × List Row) → Words → Type 0
AsksMatched met words.Unread = ⊥
AsksMatched met w = AsksFiles met w

-- the result for a match: the files that it names, out of memory, or the refusal of one file under both names
abbrev pub AsksIn : Option (Text × List Row) → Words → Type 0
AsksIn met w = Asks met w × AsksMatched met w

-- a text, or out of memory
abbrev pub IsText : Words → Type 0
IsText (words.Help text) = ⊤
IsText (words.Refused text) = ⊤
IsText words.NoMemory = ⊤
IsText words.Unread = ⊤
IsText _ = ⊥

-- help or the version for an error of that kind, and a refusal for any other
abbrev pub IsTextForKind : ErrorKind → Words → Type 0
IsTextForKind k (words.Help text) = IsShown k
IsTextForKind k (words.Refused text) = IsShown k → ⊥
IsTextForKind k _ = ⊤
