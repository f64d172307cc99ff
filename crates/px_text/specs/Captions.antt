-- The output of `captions`: the labelled texts of an Exif block's main directory, and those of a record.
use Rattle.std.specs.Prelude.{ℕ, Bool, true, false, not, nat_le, ◌==◌, ◌&&◌, if◌then◌else◌, List, [], ◌∷◌, ◌++◌, codes, flat_map}
use Rattle.std.specs.Prelude.{filter_map, Option, Some, None, option_map, bytes_eq}
use Rattle.hex.specs.Hex.{encode_lower}
use Rattle.px_bytes.specs.declared.Order.TheVariants.{Most}
use Rattle.px_field.specs.declared.Form.TheVariants.{Ascii, Utf8}
use Rattle.px_field.specs.declared.Kind.{Kind}
use Rattle.px_field.specs.declared.Kind.TheVariants.{Of}
use Rattle.px_field.specs.Values.{Value, encoded}
use Rattle.px_iim.specs.Group.{Record, named, items_at}
use Rattle.px_meaning.specs.Roles.{at_tag}
use Rattle.px_meaning.specs.Tree.{Fields, Meaning}
use Rattle.px_text.specs.declared.labels.Label.{Label}
use Rattle.px_text.specs.declared.labels.Label.TheVariants.{Title, Caption, Headline, Credit, Source, Copyright, ByLine, ByLineTitle}
use Rattle.px_text.specs.declared.labels.Label.TheVariants.{Keyword, Inventory, Description, Artist}

-- a caption: its label, and its bytes
abbrev pub Labelled : Type 0
Labelled = Label × List ℕ

-- ---- captions of a record. IIM 4.2, chapter 6.

-- the label of a DataSet of record 2: 5 Object Name, 120 Caption/Abstract, 105 Headline, 110 Credit, 115 Source, 116
-- Copyright Notice, 80 By-line, 85 By-line Title, 25 Keywords, and 103 Original Transmission Reference, whose use as the
-- inventory number is this project's profile
unfoldable pub label_of : ℕ → Option Label
label_of n =
    if n == 5 then Some Title
    else if n == 120 then Some Caption
    else if n == 105 then Some Headline
    else if n == 110 then Some Credit
    else if n == 115 then Some Source
    else if n == 116 then Some Copyright
    else if n == 80 then Some ByLine
    else if n == 85 then Some ByLineTitle
    else if n == 25 then Some Keyword
    else if n == 103 then Some Inventory
    else None

-- a DataSet with its label, if it has one
abbrev pub labelled : ℕ × List ℕ → Option Labelled
labelled x = option_map (λ l. (l, x.1)) (label_of x.0)

-- the groups of record 2 in the order of their captions; By-line Title is in the group of By-line
abbrev pub caption_groups : List ℕ
caption_groups = 5 ∷ 120 ∷ 105 ∷ 110 ∷ 115 ∷ 116 ∷ 80 ∷ 25 ∷ 103 ∷ []

-- the captions of one group of record 2, in list order
abbrev pub group_captions : Record → ℕ → List Labelled
group_captions i n = filter_map labelled (items_at 2 (named 2 n) i)

-- the captions of a record, group by group
unfoldable pub iim_captions : Record → List Labelled
iim_captions i = flat_map (group_captions i) caption_groups

-- ESC % G, the escape sequence of UTF-8; 1:90 takes those of ISO 2022
abbrev pub utf8_designation : List ℕ
utf8_designation = 0x1B ∷ 0x25 ∷ 0x47 ∷ []

-- the list is one DataSet, whose data is that escape sequence
abbrev pub is_designation : List (ℕ × List ℕ) → Bool
is_designation (x ∷ []) = bytes_eq x.1 utf8_designation
is_designation _ = false

-- the list of 1:90, Coded Character Set, is exactly one DataSet, which designates UTF-8
unfoldable pub declares_utf8 : Record → Bool
declares_utf8 i = is_designation (items_at 1 (named 1 90) i)

-- ---- captions of an Exif block

-- a text: of type ASCII, or UTF-8 of Exif 3.0
abbrev pub is_text : Kind → Bool
is_text (Of Ascii) = true
is_text (Of Utf8) = true
is_text _ = false

-- a field's bytes, if the directory has the field and it is a text
abbrev pub text_captions : Label → Option Value → List Labelled
text_captions l None = []
text_captions l (Some v) = if is_text v.kind then (l, encoded Most v) ∷ [] else []

-- the texts of a main directory in the order of their captions: ImageDescription, Artist and Copyright
abbrev pub caption_texts : List (ℕ × Label)
caption_texts = (0x010E, Description) ∷ (0x013B, Artist) ∷ (0x8298, Copyright) ∷ []

-- the caption of one tag, if the field is there and is a text
abbrev pub tag_captions : Fields → ℕ × Label → List Labelled
tag_captions fs t = text_captions t.1 (at_tag t.0 fs)

-- the captions of all three tags
unfoldable pub exif_captions : Fields → List Labelled
exif_captions fs = flat_map (tag_captions fs) caption_texts

-- ---- all: whether UTF-8 is declared, and the captions, of an Exif block and of a record

-- the record, if there is one, declares UTF-8
abbrev pub record_declares : Option Record → Bool
record_declares None = false
record_declares (Some i) = declares_utf8 i

-- the captions of the record, if there is one
abbrev pub record_captions : Option Record → List Labelled
record_captions None = []
record_captions (Some i) = iim_captions i

-- of an Exif block: the captions of its fields, and of the record inside it
abbrev pub captions_of_exif : Meaning → Bool × List Labelled
captions_of_exif m = (record_declares m.iptc, exif_captions m.main ++ record_captions m.iptc)

-- of a record
abbrev pub captions_of_iim : Record → Bool × List Labelled
captions_of_iim i = (declares_utf8 i, iim_captions i)

-- the bytes asked for for each caption in a list, besides its text: 24 in the list, and three times as many for the lists before and
-- after it, each twice as large as the one before
abbrev pub caption_bytes : ℕ
caption_bytes = 96

-- ---- their text

-- a byte from 20 to 7E except 5C is printed as it is; any other is a backslash and two hexadecimal digits
abbrev pub is_plain : ℕ → Bool
is_plain b = nat_le 0x20 b && nat_le b 0x7E && not (b == 0x5C)

-- one byte, as it is printed
abbrev pub escaped_byte : ℕ → List ℕ
escaped_byte b = if is_plain b then b ∷ [] else codes "\\" ++ encode_lower (b ∷ [])

-- bytes, as they are printed
abbrev pub escaped : List ℕ → List ℕ
escaped x = flat_map escaped_byte x

-- a label, as it is printed
abbrev pub label_word : Label → List ℕ
label_word Title = codes "title"
label_word Caption = codes "caption"
label_word Headline = codes "headline"
label_word Credit = codes "credit"
label_word Source = codes "source"
label_word Copyright = codes "copyright"
label_word ByLine = codes "byline"
label_word ByLineTitle = codes "byline-title"
label_word Keyword = codes "keyword"
label_word Inventory = codes "inventory"
label_word Description = codes "description"
label_word Artist = codes "artist"

-- a caption's line: its label, a colon and a space, its text with escapes, a line feed
unfoldable pub caption_line : Labelled → List ℕ
caption_line c = label_word c.0 ++ codes ": " ++ escaped c.1 ++ codes "\n"

-- the lines of captions, in order
abbrev pub caption_lines : List Labelled → List ℕ
caption_lines cs = flat_map caption_line cs

-- the line about the character set of a record
abbrev pub charset_line : Bool → List ℕ
charset_line declared = if declared then codes "charset: UTF-8\n" else codes "charset: not declared\n"

-- the lines of a record
abbrev pub iim_lines : Record → List ℕ
iim_lines i = charset_line (declares_utf8 i) ++ caption_lines (iim_captions i)

-- the lines of the record inside an Exif block, if there is one
abbrev pub record_lines : Option Record → List ℕ
record_lines None = []
record_lines (Some i) = iim_lines i

-- the whole text of an Exif block's captions
abbrev pub exif_text : Meaning → List ℕ
exif_text m = codes "exif\n" ++ caption_lines (exif_captions m.main) ++ record_lines m.iptc

-- the whole text of a record's captions
abbrev pub iim_text : Record → List ℕ
iim_text i = codes "iim\n" ++ iim_lines i
