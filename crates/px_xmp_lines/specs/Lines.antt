-- What the contracts about the lines of a packet cite.
use Rattle.std.specs.Prelude.{◌≡◌, ◌==◌, ◌||◌, ◌&&◌, nat_eq, nat_le, ℕ, Bool, true, false, List, [], ◌∷◌}
use Rattle.std.specs.List.{starts_with, AllByRecursion}
use Rattle.px_xmp.specs.Packet.{is_around}

-- the first octet that may not precede a packet's document is `<`
abbrev pub begins_mark : List ℕ → Bool
begins_mark [] = false
begins_mark (o ∷ x) = (o == 60) || (is_around o && begins_mark x)

-- a byte order mark of UTF-16 is at the start
abbrev pub is_wide : List ℕ → Bool
is_wide x = starts_with nat_eq x (0xFF ∷ 0xFE ∷ []) || starts_with nat_eq x (0xFE ∷ 0xFF ∷ [])

-- a file begins as a packet of XMP does. How packets are told from blocks is this project's profile
abbrev pub is_packet : List ℕ → Bool
is_packet x = is_wide x || begins_mark x

-- a line feed, or an octet from space to tilde
abbrev pub is_printed : ℕ → Bool
is_printed o = (o == 10) || (nat_le 32 o && nat_le o 126)

-- each octet is one of these
abbrev pub ArePrinted : List ℕ → Type 0
ArePrinted x = AllByRecursion (λ o. is_printed o ≡ true) x

-- a call adds no other octets to lines
abbrev pub KeepsPrinted : List ℕ → List ℕ → Type 0
KeepsPrinted old new = ArePrinted old → ArePrinted new
