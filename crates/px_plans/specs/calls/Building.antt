-- A block that is built piece by piece: a new piece comes first in the list, so it overwrites the others.
use Rattle.std.specs.Prelude.{◌≡◌, ℕ, ◌+◌, ◌≤◌, ◌<◌, ◌^◌, ⊤, List, [], ◌∷◌, ◌++◌, length, map, filter_map}
use Rattle.std.specs.List.{AllByRecursion, range_with_len}
use Rattle.px_meaning.specs.declared.Dir.{Dir}
use Rattle.px_meaning.specs.Tree.{Meaning}
use Rattle.px_meaning.specs.Writable.{Item, items}
use Rattle.px_layout.specs.declared.chunks.Chunk.{Chunk}
use Rattle.px_plans.specs.declared.layout.Layout.{Layout}
use Rattle.px_plans.specs.declared.building.Piece.{Piece}
use Rattle.px_plans.specs.declared.building.Piece.TheVariants.{Header, Table, Value}
use Rattle.px_layout.specs.calls.Items.{item_of, CountsFit}
use Rattle.px_layout.specs.Plans.{place}
use Rattle.px_plans.specs.calls.Layouts.{plan_of_layout, meaning_of_layout, header_in, item_in, table_in}
use Rattle.px_layout.specs.Laid.{placed_content, contents_of_dir, byte_at}

-- the block of n bytes that pieces make
abbrev pub made : ℕ → ℕ → List (ℕ × List ℕ) → List ℕ
made n filler xs = map (byte_at filler xs) (range_with_len 0 n)

-- the pieces lie within n bytes
abbrev pub AreInside : ℕ → List (ℕ × List ℕ) → Type 0
AreInside n xs = AllByRecursion (λ y. y.0 + length y.1 ≤ n) xs

-- the pieces were written over those of the block
abbrev pub PutsOver : List ℕ → List ℕ → List (ℕ × List ℕ) → Type 0
PutsOver old new xs = (filler : ℕ) (ys : List (ℕ × List ℕ)) → old ≡ made (length old) filler ys → new ≡ made (length old) filler (xs ++ ys)

-- the number of bytes of pieces
abbrev pub pieces_size : List (ℕ × List ℕ) → ℕ
pieces_size [] = 0
pieces_size (x ∷ xs) = length x.1 + pieces_size xs

-- the bytes of a piece
abbrev pub piece_bytes : Layout → Piece → List ℕ
piece_bytes l Header = header_in l
piece_bytes l (Table d xs) = table_in l d xs.now
piece_bytes l (Value x) = item_in l (item_of x)

-- a table has fewer than 65,536 entries, and an item's counts are of four bytes
abbrev pub IsPiece : Piece → Type 0
IsPiece Header = ⊤
IsPiece (Table d xs) = length xs.now < 2 ^ 16
IsPiece (Value x) = CountsFit (item_of x)

-- chunks with their offsets
abbrev pub at_places : Layout → List (Chunk × List ℕ) → List (ℕ × List ℕ)
at_places l cs = map (λ c. (place (plan_of_layout l) c.0, c.1)) cs

-- the values of entries that have an offset
abbrev pub value_pieces : Layout → Dir → List (ℕ × Item) → List (ℕ × List ℕ)
value_pieces l d xs = at_places l (filter_map (placed_content (plan_of_layout l) l.order l.filler d) xs)

-- the chunks of a directory, if the meaning has it
abbrev pub contents_in : Layout → Dir → List (Chunk × List ℕ)
contents_in l d = contents_of_dir (plan_of_layout l) l.order l.filler (meaning_of_layout l) d (items (meaning_of_layout l) d)

-- a directory's table and its values that have an offset
abbrev pub dir_pieces : Layout → Meaning → Dir → List (ℕ × List ℕ)
dir_pieces l m d = at_places l (contents_of_dir (plan_of_layout l) l.order l.filler m d (items m d))
