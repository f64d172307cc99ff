-- The meaning of a layout, and the bytes that it lays out.
use Rattle.std.specs.Prelude.{ℕ, List}
use Rattle.px_meaning.specs.declared.Dir.{Dir}
use Rattle.px_meaning.specs.Tree.{Meaning}
use Rattle.px_meaning.specs.calls.Seen.{meaning_of}
use Rattle.px_meaning.specs.Writable.{Item}
use Rattle.px_plans.specs.declared.layout.Layout.{Layout}
use Rattle.px_layout.specs.Laid.{header, item_bytes, last_bytes, entry_bytes, next_bytes, table_bytes}
use Rattle.px_layout.specs.Plans.{Plan}
use Rattle.px_plans.specs.calls.Planned.{plan_of}

-- the plan of a layout
abbrev pub plan_of_layout : Layout → Plan
plan_of_layout l = plan_of l.plan.now

-- the meaning of a layout
abbrev pub meaning_of_layout : Layout → Meaning
meaning_of_layout l = meaning_of l.m.now

-- ---- the bytes of its parts

-- the header
abbrev pub header_in : Layout → List ℕ
header_in l = header (plan_of_layout l) l.order l.filler

-- the value of an entry
abbrev pub item_in : Layout → Item → List ℕ
item_in l x = item_bytes (plan_of_layout l) l.order l.filler x

-- the last four bytes of an entry: the value, or its offset
abbrev pub last_in : Layout → Dir → ℕ × Item → List ℕ
last_in l d i = last_bytes (plan_of_layout l) l.order l.filler d i

-- the twelve bytes of an entry
abbrev pub entry_in : Layout → Dir → ℕ × Item → List ℕ
entry_in l d i = entry_bytes (plan_of_layout l) l.order l.filler d i

-- the four bytes after the entries: the offset of the next directory
abbrev pub next_in : Layout → Dir → List ℕ
next_in l d = next_bytes (plan_of_layout l) l.order l.filler (meaning_of_layout l) d

-- the table of a directory with these entries
abbrev pub table_in : Layout → Dir → List (ℕ × Item) → List ℕ
table_in l d xs = table_bytes (plan_of_layout l) l.order l.filler (meaning_of_layout l) d xs
