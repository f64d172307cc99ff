-- The references of XML, as they are read. XML 1.0, 2.2, 4.1 and 4.6.
use Rattle.std.specs.Prelude.{◌+◌, ◌-◌, ◌*◌, ◌==◌, ◌&&◌, ◌||◌, ℕ, suc, Bool, nat_le, nat_lt, nat_eq, if◌then◌else◌, codes}
use Rattle.std.specs.Prelude.{Option, Some, None, option_and_then, List, [], ◌∷◌, drop}
use Rattle.std.specs.List.{starts_with}
use Rattle.px_xmp_text.specs.declared.references.Digits.{Digits}
use Rattle.px_xmp_text.specs.declared.references.Reference.{Reference}

-- the characters that XML allows (2.2)
abbrev pub is_char : ℕ → Bool
is_char n =
    (n == 9) || (n == 10) || (n == 13) || (nat_le 32 n && nat_le n 55295) || (nat_le 57344 n && nat_le n 65533)
    || (nat_le 65536 n && nat_le n 1114111)

-- the value of a hexadecimal digit
abbrev pub digit_value : ℕ → Option ℕ
digit_value c =
    if nat_le 48 c && nat_le c 57 then Some (c - 48)
    else if nat_le 97 c && nat_le c 102 then Some (c - 97 + 10)
    else if nat_le 65 c && nat_le c 70 then Some (c - 65 + 10)
    else None

-- a number and how many digits it has; or a character and the length of its reference
abbrev pub Counted : Type 0
Counted = ℕ × ℕ

-- a stored number, and how many digits it has
abbrev pub digits_view : Digits → Counted
digits_view n = (n.number, n.size)

-- the character of a stored reference, and how many octets the reference has
abbrev pub reference_view : Reference → Counted
reference_view r = (r.character, r.size)

-- the number in the digits before the first semicolon, which follow n digits with the number v; None if no character has it
unfoldable pub digits : ℕ → ℕ → ℕ → List ℕ → Option Counted
digits base v n [] = None
digits base v n (c ∷ x) =
    if c == 59 then (if n == 0 then None else Some (v, n))
    else option_and_then (λ d. if nat_le base d then None else if nat_lt 1114111 (v * base + d) then None else digits base
    (v * base + d) (suc n) x) (digit_value c)

-- the character with this number, if XML allows it, and the length of its reference: `head` octets,
-- the digits and a semicolon
abbrev pub if_char : ℕ → Counted → Option Counted
if_char head f = if is_char f.0 then Some (f.0, head + f.1 + 1) else None

-- a character reference (4.1), whose first `head` octets precede its digits
unfoldable pub character_reference : ℕ → ℕ → List ℕ → Option Counted
character_reference head base x = option_and_then (if_char head) (digits base 0 0 (drop head x))

-- a reference to one of the five predefined entities (4.6)
unfoldable pub entity_reference : List ℕ → Option Counted
entity_reference x =
    if starts_with nat_eq x (codes "&amp;") then Some (38, 5)
    else if starts_with nat_eq x (codes "&lt;") then Some (60, 4)
    else if starts_with nat_eq x (codes "&gt;") then Some (62, 4)
    else if starts_with nat_eq x (codes "&quot;") then Some (34, 6)
    else if starts_with nat_eq x (codes "&apos;") then Some (39, 6)
    else None

-- the first reference, or the second if there is none
abbrev pub or_else : Option Counted → Option Counted → Option Counted
or_else None y = y
or_else (Some c) y = Some c

-- the reference at the start: the character that it means, and its length
unfoldable pub reference : List ℕ → Option Counted
reference x =
    or_else (entity_reference x) (if starts_with nat_eq x (codes "&#x") then character_reference 3 16 x
    else if starts_with nat_eq x (codes "&#") then character_reference 2 10 x
    else None)
