-- Names, attributes and tags, as they are read. XML 1.0, 2.3 and 3.1; Namespaces in XML 1.0, 3 and 4.
use Rattle.std.specs.Prelude.{◌+◌, ◌==◌, ◌&&◌, ◌||◌, ℕ, zero, suc, Bool, true, false, nat_le, nat_eq, if◌then◌else◌, codes}
use Rattle.std.specs.Prelude.{Option, Some, None, option_map, option_and_then, is_none, List, [], ◌∷◌, length, drop, take}
use Rattle.std.specs.List.{starts_with}
use Rattle.px_xmp_text.specs.Texts.{first_fault}
use Rattle.px_xmp_text.specs.declared.pieces.TextKind.TheVariants.{AttributeValue}
use Rattle.px_xmp_marks.specs.declared.names.Name.{Name}
use Rattle.px_xmp_marks.specs.declared.attributes.Attribute.{Attribute}
use Rattle.px_xmp_marks.specs.declared.listing.NextAttribute.{NextAttribute}
use Rattle.px_xmp_marks.specs.declared.tags.StartTag.{StartTag}
use Rattle.px_xmp_marks.specs.declared.tags.EndTag.{EndTag}

-- white space (2.3)
abbrev pub is_space : ℕ → Bool
is_space o = (o == 32) || (o == 9) || (o == 10) || (o == 13)

-- the characters of ASCII with which a name can begin, without the colon (2.3): [A-Za-z_]
abbrev pub is_name_start : ℕ → Bool
is_name_start o = (nat_le 97 o && nat_le o 122) || (nat_le 65 o && nat_le o 90) || (o == 95)

-- the characters of ASCII that a name can contain, without the colon (2.3): [A-Za-z_0-9.-]
abbrev pub is_name_char : ℕ → Bool
is_name_char o = is_name_start o || (nat_le 48 o && nat_le o 57) || (o == 45) || (o == 46)

-- how many octets at the start pass a test
abbrev pub run : (ℕ → Bool) → List ℕ → ℕ
run f [] = 0
run f (o ∷ x) = if f o then suc (run f x) else 0

-- how many octets at the start are white space
abbrev pub space_len : List ℕ → ℕ
space_len x = run is_space x

-- how many octets at the start a name can contain
abbrev pub name_len : List ℕ → ℕ
name_len x = run is_name_char x

-- the length of the name without a colon at the start
unfoldable pub ncname : List ℕ → Option ℕ
ncname [] = None
ncname (o ∷ x) = if is_name_start o then Some (name_len (o ∷ x)) else None

-- the octet c is at the start
abbrev pub begins_with : ℕ → List ℕ → Bool
begins_with c [] = false
begins_with c (o ∷ x) = o == c

-- a name as it is written, and its length
pub record Named : Type 0 where
  pub prefix : List ℕ
  pub local : List ℕ
  pub size : ℕ

-- a stored name as it is read
abbrev pub name_view : Name → Named
name_view n = record { prefix = n.prefix.now; local = n.local.now; size = n.size }

-- the name at the start whose first part has n octets
abbrev pub from_first : List ℕ → ℕ → Option Named
from_first x n =
    if begins_with 58 (drop n x)
    then option_map (λ m. record { prefix = take n x; local = take m (drop 1 (drop n x)); size = n + 1 + m }) (ncname (drop 1 (drop n x)))
    else Some (record { prefix = []; local = take n x; size = n })

-- the name at the start
unfoldable pub name : List ℕ → Option Named
name x = option_and_then (from_first x) (ncname x)

-- ---- attributes

-- the length of an equals sign with the white space around it (production 25)
unfoldable pub eq_len : List ℕ → Option ℕ
eq_len x =
    if begins_with 61 (drop (space_len x) x)
    then Some (space_len x + 1 + space_len (drop 1 (drop (space_len x) x)))
    else None

-- the number of octets before the first quotation mark q, which follow n others; None if there is none, or `<` precedes it
unfoldable pub quoted_len : ℕ → ℕ → List ℕ → Option ℕ
quoted_len q n [] = None
quoted_len q n (o ∷ x) = if o == q then Some n else if o == 60 then None else quoted_len q (suc n) x

-- the number of octets before the first quotation mark q, if they have a text as the value of an
-- attribute
unfoldable pub value_len : ℕ → List ℕ → Option ℕ
value_len q x =
    option_and_then (λ n. if is_none (first_fault AttributeValue (take n x)) then Some n else None) (quoted_len q 0 x)

-- the quoted value at the start, without its quotation marks (production 10)
unfoldable pub att_value : List ℕ → Option (List ℕ)
att_value [] = None
att_value (q ∷ x) = if (q == 34) || (q == 39) then option_map (λ n. take n x) (value_len q x) else None

-- an attribute as it is written, and its length
pub record Attr : Type 0 where
  pub name : Named
  pub value : List ℕ
  pub size : ℕ

-- a stored attribute as it is read
abbrev pub attribute_view : Attribute → Attr
attribute_view a = record { name = name_view a.name; value = a.value.now; size = a.size }

-- the attribute at the start, which begins with the name n
abbrev pub from_name : List ℕ → Named → Option Attr
from_name x n =
    option_and_then (λ e. option_map (λ v. record { name = n; value = v; size = n.size + e + (length v + 2) }) (att_value
    (drop e (drop n.size x)))) (eq_len (drop n.size x))

-- the attribute at the start (production 41)
unfoldable pub attribute : List ℕ → Option Attr
attribute x = option_and_then (from_name x) (name x)

-- ---- tags

-- a `>` is at the start, 62, or the `/` of an empty element's tag, 47
abbrev pub ends_tag : List ℕ → Bool
ends_tag x = begins_with 62 x || begins_with 47 x

-- at most n attributes at the start, each after white space, up to the end of a tag; and how many octets precede this end
unfoldable pub attributes_in : ℕ → List ℕ → Option (List Attr × ℕ)
attributes_in zero x = None
attributes_in (suc n) x =
    if ends_tag (drop (space_len x) x) then Some ([], space_len x)
    else if space_len x == 0 then None
    else option_and_then (λ a. option_map (λ r. (a ∷ r.0, space_len x + a.size + r.1)) (attributes_in n
    (drop a.size (drop (space_len x) x)))) (attribute (drop (space_len x) x))

-- the attributes of a tag, and how many octets precede its end; they are fewer than the octets, so
-- n is enough. None: what precedes the end is no attributes
abbrev pub attributes_of : List ℕ → Option (List Attr × ℕ)
attributes_of x = attributes_in (suc (length x)) x

-- the number of octets before the end of the tag
abbrev pub attributes_len : List ℕ → Option ℕ
attributes_len x = option_map (λ r. r.1) (attributes_of x)

-- an attribute of a tag, and the octets that follow it
pub record Next : Type 0 where
  pub attribute : Attr
  pub rest : List ℕ

-- a stored attribute, with the octets that follow it
abbrev pub next_view : NextAttribute → Next
next_view n = record { attribute = attribute_view n.attribute; rest = n.rest.now }

-- the first attribute, if the tag has not ended
unfoldable pub next_attribute : List ℕ → Option Next
next_attribute x =
    if ends_tag (drop (space_len x) x) then None
    else option_map (λ a. record { attribute = a; rest = drop a.size (drop (space_len x) x) }) (attribute (drop (space_len x) x))

-- the end of a start tag: whether its element is empty, and its length
unfoldable pub tag_end : List ℕ → Option (Bool × ℕ)
tag_end x =
    if begins_with 62 x then Some (false, 1)
    else if starts_with nat_eq x (codes "/>") then Some (true, 2)
    else None

-- a start tag or the tag of an empty element, as it is written: its name, the octets that follow the name, and its length
pub record Start : Type 0 where
  pub name : Named
  pub rest : List ℕ
  pub is_empty : Bool
  pub size : ℕ

-- a stored start tag as it is read
abbrev pub start_tag_view : StartTag → Start
start_tag_view t = record { name = name_view t.name; rest = t.rest.now; is_empty = t.is_empty; size = t.size }

-- the start tag with the name n, which the octets y follow
abbrev pub from_tag_name : Named → List ℕ → Option Start
from_tag_name n y =
    option_and_then (λ k. option_map (λ e. record { name = n; rest = y; is_empty = e.0; size = 1 + n.size + k + e.1 }) (tag_end
    (drop k y))) (attributes_len y)

-- the start tag at the start (productions 40 and 44)
unfoldable pub start_tag : List ℕ → Option Start
start_tag x =
    if begins_with 60 x then option_and_then (λ n. from_tag_name n (drop n.size (drop 1 x))) (name (drop 1 x)) else None

-- an end tag as it is written, and its length
pub record End : Type 0 where
  pub name : Named
  pub size : ℕ

-- a stored end tag as it is read
abbrev pub end_tag_view : EndTag → End
end_tag_view t = record { name = name_view t.name; size = t.size }

-- the end tag with the name n, which the octets y follow
abbrev pub from_end_name : Named → List ℕ → Option End
from_end_name n y =
    if begins_with 62 (drop (space_len y) y) then Some (record { name = n; size = 2 + n.size + space_len y + 1 }) else None

-- the end tag at the start (production 42)
unfoldable pub end_tag : List ℕ → Option End
end_tag x =
    if starts_with nat_eq x (codes "</") then option_and_then (λ n. from_end_name n (drop n.size (drop 2 x))) (name (drop 2 x)) else None
