-- The text of character data, of a CDATA section and of an attribute value, and the normal form of a text. XML 1.0, 2.11, 3.3.3, 4.1.
use Rattle.std.specs.Prelude.{◌+◌, ◌==◌, ◌&&◌, ◌||◌, ℕ, zero, suc, Bool, true, false, if◌then◌else◌, codes}
use Rattle.std.specs.Prelude.{Option, Some, None, option_map, option_and_then, List, [], ◌∷◌, ◌++◌, length, drop}
use Rattle.std.specs.List.{flat_map}
use Rattle.std.specs.Char.{encode_utf8}
use Rattle.px_xmp_text.specs.References.{reference}
use Rattle.px_xmp_text.specs.declared.pieces.TextKind.{TextKind}
use Rattle.px_xmp_text.specs.declared.pieces.TextKind.TheVariants.{CharacterData, CdataSection, AttributeValue}

-- no reference is recognised in a CDATA section (2.7)
abbrev pub has_references : TextKind → Bool
has_references CharacterData = true
has_references CdataSection = false
has_references AttributeValue = true

-- white space means a space in an attribute value (3.3.3), and elsewhere itself
abbrev pub white_space : TextKind → ℕ → ℕ
white_space CharacterData o = o
white_space CdataSection o = o
white_space AttributeValue o = 32

-- a line feed, LF, is at the start
abbrev pub begins_with_feed : List ℕ → Bool
begins_with_feed [] = false
begins_with_feed (o ∷ x) = o == 10

-- The first piece: the octets that it means, and its length. A reference means its character; CR LF, or CR alone, means LF (2.11).
unfoldable pub piece : TextKind → List ℕ → Option (List ℕ × ℕ)
piece k [] = None
piece k (o ∷ x) =
    if (o == 38) && has_references k then option_map (λ r. (encode_utf8 r.0, r.1)) (reference (o ∷ x))
    else if o == 13 then Some (white_space k 10 ∷ [], if begins_with_feed x then 2 else 1)
    else if (o == 9) || (o == 10) then Some (white_space k o ∷ [], 1)
    else Some (o ∷ [], 1)

-- the text of at most n pieces, which are all
unfoldable pub text_in : ℕ → TextKind → List ℕ → Option (List ℕ)
text_in n k [] = Some []
text_in zero k (o ∷ x) = None
text_in (suc n) k (o ∷ x) = option_and_then (λ p. option_map (λ t. p.0 ++ t) (text_in n k (drop p.1 (o ∷ x)))) (piece k (o ∷ x))

-- the text of octets: what their pieces mean, joined
abbrev pub text_of : TextKind → List ℕ → Option (List ℕ)
text_of k x = text_in (length x) k x

-- ---- the first fault

-- the offset `at` of a piece that means nothing, or else what f finds after the piece
abbrev pub or_at : ℕ → (List ℕ × ℕ → Option ℕ) → Option (List ℕ × ℕ) → Option ℕ
or_at at f None = Some at
or_at at f (Some p) = f p

-- the offset of the first of n pieces that means nothing; the first piece is at an offset
unfoldable pub fault_in : ℕ → ℕ → TextKind → List ℕ → Option ℕ
fault_in n at k [] = None
fault_in zero at k (o ∷ x) = Some at
fault_in (suc n) at k (o ∷ x) = or_at at (λ p. fault_in n (at + p.1) k (drop p.1 (o ∷ x))) (piece k (o ∷ x))

-- the offset of the first piece of x that means nothing; None: all of x has a text
abbrev pub first_fault : TextKind → List ℕ → Option ℕ
first_fault k x = fault_in (length x) 0 k x

-- ---- the normal form of a text: four octets as references, all others as they are

-- an octet of a text in its normal form: `&`, `<`, `>` and CR are references (XML 1.0, 2.4 and
-- 2.11)
abbrev pub normal_octet : ℕ → List ℕ
normal_octet o =
    if o == 38 then codes "&amp;"
    else if o == 60 then codes "&lt;"
    else if o == 62 then codes "&gt;"
    else if o == 13 then codes "&#13;"
    else o ∷ []

-- a text in its normal form
abbrev pub normal_text : List ℕ → List ℕ
normal_text t = flat_map normal_octet t
