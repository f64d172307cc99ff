-- The output of `show`: the fields of each directory, the bytes of the thumbnail, and the DataSets of a record.
use Rattle.std.specs.Prelude.{ℕ, List, [], ◌∷◌, ◌++◌, length, codes, decimal, flat_map, if◌then◌else◌, Option, Some, None}
use Rattle.std.specs.Fmt.{signed_decimal}
use Rattle.std.specs.List.{join_by}
use Rattle.hex.specs.Hex.{encode_lower}
use Rattle.px_bytes.specs.declared.Order.TheVariants.{Most}
use Rattle.px_bytes.specs.Numbers.{spelling}
use Rattle.px_field.specs.declared.Form.TheVariants as form
use Rattle.px_field.specs.declared.Kind.{Kind}
use Rattle.px_field.specs.declared.Kind.TheVariants.{Of, Whole}
use Rattle.px_field.specs.declared.Element.{Element}
use Rattle.px_field.specs.declared.Element.TheVariants as element
use Rattle.px_field.specs.Values.{Value, is_bytes}
use Rattle.px_iim.specs.Asking.{dataset_count}
use Rattle.px_iim.specs.Group.{Group, Record}
use Rattle.px_meaning.specs.Tree.{Fields, ExifPart, Thumbnail, Meaning}
use Rattle.px_text.specs.Words.{sized_bytes}

-- ---- fields

-- the name of a type. TIFF 6.0 section 2, "Types"; WHOLE for a tag that treats SHORT and LONG as the same.
abbrev pub type_word : Kind → List ℕ
type_word (Of form.Byte) = codes "BYTE"
type_word (Of form.Ascii) = codes "ASCII"
type_word (Of form.Short) = codes "SHORT"
type_word (Of form.Long) = codes "LONG"
type_word (Of form.Rational) = codes "RATIONAL"
type_word (Of form.SByte) = codes "SBYTE"
type_word (Of form.Undefined) = codes "UNDEFINED"
type_word (Of form.SShort) = codes "SSHORT"
type_word (Of form.SLong) = codes "SLONG"
type_word (Of form.SRational) = codes "SRATIONAL"
type_word (Of form.Float) = codes "FLOAT"
type_word (Of form.Double) = codes "DOUBLE"
type_word (Of form.Utf8) = codes "UTF8"
type_word Whole = codes "WHOLE"

-- one element: a byte or a bit pattern in hexadecimal, a number in decimal, a fraction as its two numbers
abbrev pub element_text : Element → List ℕ
element_text (element.Byte n) = encode_lower (n ∷ [])
element_text (element.Short n) = decimal n
element_text (element.Long n) = decimal n
element_text (element.Rational n d) = decimal n ++ codes "/" ++ decimal d
element_text (element.SShort z) = signed_decimal z
element_text (element.SLong z) = signed_decimal z
element_text (element.SRational y z) = signed_decimal y ++ codes "/" ++ signed_decimal z
element_text (element.Float n) = encode_lower (spelling Most 4 n)
element_text (element.Double n) = encode_lower (spelling Most 8 n)

-- the text between two elements: nothing between two bytes, otherwise one space
abbrev pub divider : Kind → List ℕ
divider k = if is_bytes k then [] else codes " "

-- one space and the elements, or nothing without an element
abbrev pub shown_elements : Kind → List Element → List ℕ
shown_elements k [] = []
shown_elements k (e ∷ es) = codes " " ++ join_by element_text (divider k) (e ∷ es)

-- a field: its tag in four hexadecimal digits, its type, how many elements it has, and these
unfoldable pub field_line : ℕ × Value → List ℕ
field_line p =
    encode_lower (spelling Most 2 p.0) ++ codes " " ++ type_word p.1.kind ++ codes " " ++ decimal (length p.1.elements) ++ codes ":"
    ++ shown_elements p.1.kind p.1.elements ++ codes "\n"

-- a line for each field, by ascending tag
abbrev pub field_lines : Fields → List ℕ
field_lines fs = flat_map field_line fs

-- ---- the bytes of a thumbnail

-- the line of the JPEG, if there is one: its length and its bytes
abbrev pub jpeg_lines : Option (List ℕ) → List ℕ
jpeg_lines None = []
jpeg_lines (Some x) = codes "jpeg" ++ sized_bytes x

-- the line of a strip: its length and its bytes
abbrev pub strip_line : List ℕ → List ℕ
strip_line x = codes "strip" ++ sized_bytes x

-- how many strips there are, and a line for each; nothing without strips
abbrev pub strips_lines : Option (List (List ℕ)) → List ℕ
strips_lines None = []
strips_lines (Some xs) = codes "strips " ++ decimal (length xs) ++ codes ":\n" ++ flat_map strip_line xs

-- ---- DataSets

-- a DataSet of a record number: that number and its own, and its data
unfoldable pub dataset_line : ℕ → ℕ × List ℕ → List ℕ
dataset_line rec x = decimal rec ++ codes ":" ++ decimal x.0 ++ sized_bytes x.1

-- a line for each DataSet of a group
abbrev pub group_lines : Group → List ℕ
group_lines g = flat_map (dataset_line g.rec) g.items

-- the groups in order, each list in its order
abbrev pub dataset_lines : Record → List ℕ
dataset_lines i = flat_map group_lines i

-- ---- directories

-- a record in the main directory
abbrev pub record_lines : Option Record → List ℕ
record_lines None = []
record_lines (Some i) = codes "record " ++ decimal (dataset_count i) ++ codes ":\n" ++ dataset_lines i

-- a directory that has only fields, if the meaning has it
abbrev pub directory_lines : List ℕ → Option Fields → List ℕ
directory_lines name None = []
directory_lines name (Some fs) = name ++ field_lines fs

-- the Exif directory and the Interoperability directory, if the meaning has them
abbrev pub exif_lines : Option ExifPart → List ℕ
exif_lines None = []
exif_lines (Some e) = codes "[exif]\n" ++ field_lines e.fields ++ directory_lines (codes "[interop]\n") e.interop

-- the thumbnail directory, its JPEG and its strips, if the meaning has a thumbnail
abbrev pub thumb_lines : Option Thumbnail → List ℕ
thumb_lines None = []
thumb_lines (Some t) = codes "[thumb]\n" ++ field_lines t.fields ++ jpeg_lines t.jpeg ++ strips_lines t.strips

-- ---- the whole text, of an Exif block and of a record

-- the directories main, Exif, Interoperability, GPS and thumbnail, if the meaning has them
unfoldable pub exif_listing : Meaning → List ℕ
exif_listing m =
    codes "exif\n[main]\n" ++ field_lines m.main ++ record_lines m.iptc ++ exif_lines m.exif
    ++ directory_lines (codes "[gps]\n") m.gps ++ thumb_lines m.thumb

-- the word `iim`, and a line for each DataSet
unfoldable pub iim_listing : Record → List ℕ
iim_listing i = codes "iim\n" ++ dataset_lines i
