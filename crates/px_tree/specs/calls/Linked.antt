-- How the reader's directories and pointers correspond to the definitions.
use Rattle.std.specs.Prelude.{◌≡◌, ℕ, ◌+◌, ◌*◌, Option, option_map, option_to_list, List, length, flat_map, IfSome}
use Rattle.px_bytes.specs.declared.Order.{Order}
use Rattle.px_meaning.specs.declared.Dir.{Dir}
use Rattle.px_tree.specs.declared.links.Link.{Link}
use Rattle.px_tree.specs.declared.links.Found.{Found}
use Rattle.px_tree.specs.declared.tables.Directory.{Directory}
use Rattle.px_meaning.specs.Directory.{entries_at, dir_at}
use Rattle.px_tree.specs.Checks.{named_at}
use Rattle.px_tree.specs.calls.Reading.{HasTable}
use Rattle.px_tree.specs.calls.Uses.{IsFirst, AreUses, has_tag}

-- the entries that were kept of the table at a
abbrev pub AreUsesAt : List ℕ → Order → Directory → Type 0
AreUsesAt b o t = AreUses b o (entries_at b o t.at) (t.at + 2) t.uses

-- f is the entry of tag t in the table at a
abbrev pub IsFound : List ℕ → Order → ℕ → ℕ → Found → Type 0
IsFound b o a t f = IsFirst b o (entries_at b o a) (a + 2) (has_tag t) f

-- the offset in a pointer
abbrev pub offset_of : Option Link → List ℕ
offset_of link = option_to_list (option_map (λ l. l.at) link)

-- the offsets in pointers
abbrev pub offsets_of : List (Option Link) → List ℕ
offsets_of links = flat_map offset_of links

-- a pointer to a directory has its offset, and is at its own
pub record Names (b : List ℕ) (o : Order) (d : Dir) (link : Option Link) : Type 0 where
  pub leads : option_map (λ l. l.at) link ≡ dir_at b o d
  pub place : IfSome link (λ l. l.place ≡ named_at b o d)

-- a directory that was read, if the block has it
pub record IsRead (b : List ℕ) (o : Order) (d : Dir) (t : Option Directory) : Type 0 where
  pub offset_at : option_map (λ t. t.at) t ≡ dir_at b o d
  pub table : IfSome t (λ t. HasTable b o t.at t.count)
  pub uses : IfSome t (AreUsesAt b o)

-- the offset after the entries of the directory at a
abbrev pub next_place : List ℕ → Order → ℕ → ℕ
next_place b o a = a + 2 + 12 * length (entries_at b o a)
