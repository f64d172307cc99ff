-- The names of open elements, as they are stored: the outermost first.
use Rattle.std.specs.Prelude.{ℕ, Bool, true, false, List, take, map, reverse}
use Rattle.px_xmp_marks.specs.Reading.{Named, name_view}
use Rattle.px_xmp_marks.specs.declared.names.Name.{Name}
use Rattle.px_xmp_markup.specs.Nesting.{Place, Among, After}

-- the first n names, the last one first
abbrev pub stack_of : ℕ → List Name → List Named
stack_of n names = reverse (map name_view (take n names))

-- the place after the end of the root, or among the open elements with these names
abbrev pub place_of : Bool → List Named → Place
place_of true names = After
place_of false names = Among names
