-- How many bytes a call asks for at most.
use Rattle.std.specs.Prelude.{◌≡◌, ℕ, ◌≤◌, ◌+◌, ◌*◌, List, Option, length}
use Rattle.px_bytes.specs.Allocations.{MemoryCounts, AsksAtMost}
use Rattle.px_bytes.specs.Reading.{readable, read_request}
use Rattle.px_tree.specs.Asking.{exif_request}
use Rattle.px_engine.specs.declared.kind.BlockKind.{BlockKind}
use Rattle.px_engine.specs.declared.kind.BlockKind.TheVariants as kind
use Rattle.px_engine.specs.Files.{Said}
use Rattle.px_engine.specs.Input.{most_read, HasMeaning}

-- to read the block in a file of n bytes: a record of DataSets asks for less than an Exif block
abbrev pub block_request : ℕ → ℕ
block_request n = exif_request n

-- to judge a block: nothing is asked for if it is one of DataSets, so that no allocation can fail
abbrev pub AsksByKind : BlockKind → MemoryCounts → MemoryCounts → Type 0
AsksByKind k old new = k ≡ kind.Iim → new ≡ old

-- that, and the normal form in memory: a form is at most twice as long as its block
abbrev pub form_request : ℕ → ℕ
form_request n = block_request n + 2 * n

-- to make a text of n bytes in memory: its list doubles, so that four bytes are asked for for each of the text; and if an allocation
-- fails, that one
abbrev pub text_request : ℕ → ℕ
text_request n = 6 * n + 131072

-- to read the block of a file and to make a text of its meaning
abbrev pub AsksForText : (Said → List ℕ) → List ℕ → MemoryCounts → MemoryCounts → Type 0
AsksForText text file old new = (most : ℕ) → ((s : Said) → HasMeaning file s → length (text s) ≤ most)
    → AsksAtMost (block_request (length file) + text_request most) old new

-- to read n bytes of a reader, and the block in them
abbrev pub file_request : ℕ → ℕ
file_request n = read_request n + block_request n

-- for the run of one file, of which a reader has these bytes left
abbrev pub run_request : Option (List ℕ) → ℕ
run_request left = file_request (readable left most_read)
