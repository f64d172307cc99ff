-- How a mark is read.
use Rattle.std.specs.Prelude.{◌≡◌, ◌+◌, ◌==◌, ℕ, if◌then◌else◌, Option, Some, None, option_map, List, length, take}
use Rattle.px_xmp_text.specs.declared.pieces.TextKind.{TextKind}
use Rattle.px_xmp_text.specs.declared.pieces.TextKind.TheVariants.{CharacterData, CdataSection}
use Rattle.px_xmp_marks.specs.Reading.{Attr, begins_with, Start, start_tag_view, start_tag, end_tag, attributes_of}
use Rattle.px_xmp_marks.specs.Sections.{section}
use Rattle.px_xmp_marks.specs.Comments.{comment}
use Rattle.px_xmp_marks.specs.Instructions.{instruction}
use Rattle.px_xmp_marks.specs.Marks.{data_len}
use Rattle.px_xmp.specs.declared.marks.Mark.{Mark}
use Rattle.px_xmp.specs.declared.marks.MarkKind.{MarkKind}
use Rattle.px_xmp.specs.declared.marks.MarkKind.TheVariants as kinds
use Rattle.px_xmp.specs.Marks as marks

-- what is at the start of octets: a start tag, an end tag, a text of a kind as it is written, or a
-- comment or an instruction, which mean nothing
pub data What : Type 0 where
  Tag : Start → What
  End : What
  Words : TextKind → List ℕ → What
  Other : What

-- a mark that is read, and its length
pub record Read : Type 0 where
  pub what : What
  pub size : ℕ

-- what a stored mark is
abbrev pub kind_view : MarkKind → What
kind_view (kinds.Start t) = Tag (start_tag_view t)
kind_view kinds.End = End
kind_view (kinds.Text t) = Words t.kind t.octets.now
kind_view kinds.Other = Other

-- a stored mark as it is read: what it is, and how many octets it has
abbrev pub mark_view : Mark → Read
mark_view m = record { what = kind_view m.kind; size = m.size }

-- the first that was read, or else the second
abbrev pub or_read : Option Read → Option Read → Option Read
or_read None y = y
or_read (Some r) y = Some r

-- the character data at the start
unfoldable pub data_read : List ℕ → Option Read
data_read x =
    if data_len x == 0 then None else Some (record { what = Words CharacterData (take (data_len x) x); size = data_len x })

-- the CDATA section at the start: 12 octets, `<![CDATA[` and `]]>`, are around its text (XML 1.0,
-- 2.7)
unfoldable pub section_read : List ℕ → Option Read
section_read x = option_map (λ y. record { what = Words CdataSection y; size = length y + 12 }) (section x)

-- the comment at the start: 7 octets, `<!--` and `-->`, are around its text (XML 1.0, 2.5)
unfoldable pub comment_read : List ℕ → Option Read
comment_read x = option_map (λ y. record { what = Other; size = length y + 7 }) (comment x)

-- the processing instruction at the start (XML 1.0, 2.6)
unfoldable pub instruction_read : List ℕ → Option Read
instruction_read x = option_map (λ n. record { what = Other; size = n }) (instruction x)

-- the section, comment or instruction at the start
unfoldable pub other_read : List ℕ → Option Read
other_read x = or_read (section_read x) (or_read (comment_read x) (instruction_read x))

-- the start tag or the end tag at the start (XML 1.0, 3.1)
unfoldable pub tag_read : List ℕ → Option Read
tag_read x =
    or_read (option_map (λ t. record { what = Tag t; size = t.size }) (start_tag x))
    (option_map (λ t. record { what = End; size = t.size }) (end_tag x))

-- the mark at the start
unfoldable pub read : List ℕ → Option Read
read x = if begins_with 60 x then or_read (tag_read x) (other_read x) else data_read x

-- what is read is this mark
abbrev pub IsReadAs : What → marks.Mark → Type 0
IsReadAs (Tag t) k =
    (attributes : List Attr) × (option_map (λ r. r.0) (attributes_of t.rest) ≡ Some attributes)
    × (k ≡ marks.Start t.name attributes t.is_empty)
IsReadAs End k = k ≡ marks.End
IsReadAs (Words kind octets) k = k ≡ marks.Text kind octets
IsReadAs Other k = k ≡ marks.Other
