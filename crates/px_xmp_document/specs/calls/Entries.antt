-- What is in scope, as it is stored: the outermost element first.
use Rattle.std.specs.Prelude.{ℕ, List, take, map, reverse}
use Rattle.px_xmp_document.specs.declared.scopes.Entry.{Entry}
use Rattle.px_xmp_document.specs.declared.scopes.Entry.TheVariants as entries
use Rattle.px_xmp_document.specs.Scopes.{Item, Element, Declaration}

-- a stored entry as an item of what is in scope: an open element, or a declaration
abbrev pub entry_view : Entry → Item
entry_view entries.Element = Element
entry_view (entries.Declaration p u) = Declaration p.now u.now

-- the first n entries, the last one first
abbrev pub entries_of : ℕ → List Entry → List Item
entries_of n entries = reverse (map entry_view (take n entries))
