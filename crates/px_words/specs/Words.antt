-- The meaning of the program's arguments.
use Rattle.std.specs.Prelude.{◌≡◌, ◌≢◌, ◌==◌, ◌↔◌, ◌⊎◌, ◌+◌, ◌++◌, ℕ, List, [], ◌∷◌, Option, Some, codes, true, false, ⊤}
use Rattle.std.specs.Char.{encode_utf8, is_control}
use Rattle.clap.specs.Words.{App, Row, Rule, Shape, Text, fault_of, first_of, new_app, new_rule, subcommand_of, with_rule, with_subcommand}
use Rattle.clap.specs.Kinds.{IsAmong, Kinds}
use Rattle.clap.specs.declared.error.ErrorKind.{ErrorKind}
use Rattle.clap.specs.declared.error.ErrorKind.TheVariants as kind
use Rattle.px_bytes.specs.Allocations.{MemoryCounts}
use Rattle.px_words.specs.declared.words.One.{One}
use Rattle.px_words.specs.declared.words.One.TheVariants as one
use Rattle.px_words.specs.declared.words.Words.{Words}
use Rattle.px_words.specs.declared.words.Words.TheVariants as words

-- ---- the command that clap gets

-- a required argument
abbrev pub required : Text → Rule
required id = record (new_rule id) { required = true }

-- a subcommand with one required argument, and one with two
abbrev pub of_one : Text → Shape
of_one name = (with_rule (new_app name) (required (codes "FILE"))).top

-- a subcommand with two required arguments
abbrev pub of_two : Text → Text → Text → Shape
of_two name first second = (with_rule (with_rule (new_app name) (required first)) (required second)).top

-- the command itself: it requires one of its subcommands, and the program's name is not one of the arguments
abbrev pub bare : App
bare = record (new_app (codes "exifnorm")) {
  top = record (new_app (codes "exifnorm")).top {
    no_binary_name = true;
    has_version = true;
    disable_help_subcommand = true;
    subcommand_required = true;
  };
}

-- the grammar of the program: five subcommands, and the files that each requires
abbrev pub exifnorm : App
exifnorm =
    with_subcommand (with_subcommand (with_subcommand (with_subcommand (with_subcommand bare
    (of_one (codes "show"))) (of_one (codes "check"))) (of_one (codes "captions")))
    (of_two (codes "normalise") (codes "FILE") (codes "OUT"))) (of_two (codes "compare") (codes "FIRST") (codes "SECOND"))

-- ---- the result for a match of the arguments

-- the subcommand with one file, as it is typed
abbrev pub name_of : One → Text
name_of one.Show = codes "show"
name_of one.Check = codes "check"
name_of one.Captions = codes "captions"

-- the line for `normalise` with the same name for both files
abbrev pub out_is_file : Text
out_is_file = codes "refused words: OUT is FILE"

-- the match has this subcommand, with this argument at an id
abbrev pub Has : Option (Text × List Row) → Text → Text → Text → Type 0
Has met name id word = (rows : List Row) × (met ≡ Some (name, rows)) × (first_of id rows ≡ Some word)

-- the match has this subcommand, with these arguments at two ids
abbrev pub HasBoth : Option (Text × List Row) → Text → Text → Text → Text → Text → Type 0
HasBoth met name id word other_id other =
    (rows : List Row) × (met ≡ Some (name, rows)) × (first_of id rows ≡ Some word) × (first_of other_id rows ≡ Some other)

-- the files are those of the match
abbrev pub Asks : Option (Text × List Row) → Words → Type 0
Asks met (words.One what file) = Has met (name_of what) (codes "FILE") file
Asks met (words.Normalise file out) = HasBoth met (codes "normalise") (codes "FILE") file (codes "OUT") out × (file ≢ out)
Asks met (words.Compare first second) = HasBoth met (codes "compare") (codes "FIRST") first (codes "SECOND") second
Asks met _ = ⊤

-- for accepted arguments: files to work on, out of memory, or one name for both files of normalise
abbrev pub AsksFiles : Option (Text × List Row) → Words → Type 0
AsksFiles met words.Filter = ⊥
AsksFiles met (words.Help text) = ⊥
AsksFiles met (words.Refused text) =
    (file : Text) × HasBoth met (codes "normalise") (codes "FILE") file (codes "OUT") file × (text ≡ out_is_file)
AsksFiles met _ = ⊤

-- the arguments have no mistake and don't request help
abbrev pub AreTaken : List Text → Type 0
AreTaken ws = fault_of exifnorm ws ≡ []

-- a name of a file that is no option: its first byte is not a hyphen
abbrev pub IsName : Text → Type 0
IsName [] = ⊤
IsName (x ∷ xs) = (x == 45) ≡ false

-- each command accepts every name of a file, and any text after `--`
abbrev pub TakesCommands : Type 0
TakesCommands = (file other : Text)
    → (IsName file → AreTaken (codes "show" ∷ file ∷ []) × AreTaken (codes "check" ∷ file ∷ []) × AreTaken (codes "captions" ∷ file ∷ []))
    × (IsName file → IsName other
    → AreTaken (codes "normalise" ∷ file ∷ other ∷ []) × AreTaken (codes "compare" ∷ file ∷ other ∷ []))
    × AreTaken (codes "show" ∷ codes "--" ∷ file ∷ []) × AreTaken (codes "check" ∷ codes "--" ∷ file ∷ [])
    × AreTaken (codes "captions" ∷ codes "--" ∷ file ∷ []) × AreTaken (codes "normalise" ∷ codes "--" ∷ file ∷ other ∷ [])
    × AreTaken (codes "compare" ∷ codes "--" ∷ file ∷ other ∷ [])

-- the match of such arguments, without `--`, has the files that they name
abbrev pub MatchesFiles : Type 0
MatchesFiles = (file other : Text)
    → (IsName file → Has (subcommand_of exifnorm (codes "show" ∷ file ∷ [])) (codes "show") (codes "FILE") file
    × Has (subcommand_of exifnorm (codes "check" ∷ file ∷ [])) (codes "check") (codes "FILE") file
    × Has (subcommand_of exifnorm (codes "captions" ∷ file ∷ [])) (codes "captions") (codes "FILE") file)
    × (IsName file → IsName other
    → HasBoth (subcommand_of exifnorm (codes "normalise" ∷ file ∷ other ∷ [])) (codes "normalise") (codes "FILE") file (codes "OUT") other
    × HasBoth (subcommand_of exifnorm (codes "compare" ∷ file ∷ other ∷ [])) (codes "compare") (codes "FIRST") file (codes "SECOND")
    other)

-- clap returns a requested text, not a mistake in the arguments
abbrev pub IsShown : ErrorKind → Type 0
IsShown k = (k ≡ kind.DisplayHelp) ⊎ (k ≡ kind.DisplayVersion)

-- for the kinds that clap's error may have: a refusal means a mistake or, without any, one name for both files of normalise;
-- files to work on mean that there is no mistake
abbrev pub IsFor : Kinds → Words → Type 0
IsFor kinds (words.Help text) = (k : ErrorKind) × IsAmong k kinds × IsShown k
IsFor kinds (words.Refused text) = ((kinds ≡ []) × (text ≡ out_is_file)) ⊎ ((k : ErrorKind) × IsAmong k kinds × (IsShown k → ⊥))
IsFor kinds words.Filter = ⊤
IsFor kinds words.NoMemory = ⊤
IsFor kinds words.Unread = ⊤
IsFor kinds _ = kinds ≡ []

-- ---- texts for a terminal

-- a line feed, or any character that is not a control character
abbrev pub IsPrintable : ℕ → Type 0
IsPrintable c = (c ≡ 10) ⊎ (is_control c ≡ false)

-- the UTF-8 of such characters
pub data IsPlain : Text → Type 0 where
  Nothing : IsPlain []
  Then : (text : Text) (c : ℕ) → IsPlain text → IsPrintable c → IsPlain (text ++ encode_utf8 c)

-- a text to print is plain: an argument in it sends no control character to the terminal, except a line feed
abbrev pub ShowsPlain : Words → Type 0
ShowsPlain (words.Help text) = IsPlain text
ShowsPlain (words.Refused text) = (text ≡ out_is_file) ⊎ IsPlain text
ShowsPlain _ = ⊤

-- ---- the meaning of the arguments

-- `lacks` are the arguments over which clap ran out of memory
abbrev pub AskedBy : (List Text → Type 0) → List Text → Words → Type 0
AskedBy lacks ws asked = (ws ≡ [] ↔ asked ≡ words.Filter) × Asks (subcommand_of exifnorm ws) asked
    × IsFor (fault_of exifnorm ws) asked × (AreTaken ws → AsksFiles (subcommand_of exifnorm ws) asked)
    × (asked ≡ words.Unread → lacks ws) × ShowsPlain asked

-- running out of memory counts one failed allocation, and no other result counts any: `old` and `new` are the counts before and
-- after the call
abbrev pub CountsAllocFailureInWordsBy : Words → ℕ → ℕ → Type 0
CountsAllocFailureInWordsBy words.NoMemory old new = new ≡ old + 1
CountsAllocFailureInWordsBy _ old new = new ≡ old

-- a failed allocation is counted, as above, by what is counted before and after the call
-- (`MemoryCounts`)
abbrev pub CountsAllocFailureInWords : Words → MemoryCounts → MemoryCounts → Type 0
CountsAllocFailureInWords r old new = CountsAllocFailureInWordsBy r old.failed_allocations new.failed_allocations
