-- URIs of ASCII, as the value of an attribute has them. RFC 3986, 2 and 3; XML 1.0, 2.4.
use Rattle.std.specs.Prelude.{◌≡◌, ◌++◌, ◌==◌, ◌&&◌, ◌||◌, ℕ, Bool, true, false, not, nat_le, nat_eq, codes, List, [], ◌∷◌}
use Rattle.std.specs.List.{list_all, starts_with}
use Rattle.px_xmp_forms.specs.Languages.{is_letter, is_digit}

-- an octet that no URI has
abbrev pub is_excluded : ℕ → Bool
is_excluded o =
    (o == 60) || (o == 62) || (o == 34) || (o == 123) || (o == 125) || (o == 124) || (o == 92) || (o == 94) || (o == 96)

-- an octet that a URI has: reserved, unreserved, or the sign before an encoded octet (2)
abbrev pub is_uri_octet : ℕ → Bool
is_uri_octet o = nat_le 33 o && nat_le o 126 && not (is_excluded o)

-- octets of a URI, of which the ampersand is written as a reference
abbrev pub are_uri_octets : List ℕ → Bool
are_uri_octets [] = true
are_uri_octets (o ∷ x) = is_uri_octet o && ((not (o == 38) || starts_with nat_eq (o ∷ x) (codes "&amp;")) && are_uri_octets x)

-- an octet of a scheme after its first: a letter, a digit, or one of +.- (3.1)
abbrev pub is_scheme_octet : ℕ → Bool
is_scheme_octet o = is_letter o || is_digit o || (o == 43) || (o == 46) || (o == 45)

-- a scheme: a letter, and then any of those octets (3.1)
abbrev pub is_scheme : List ℕ → Bool
is_scheme [] = false
is_scheme (o ∷ x) = is_letter o && list_all is_scheme_octet x

-- octets of a URI, which has a scheme before a colon (3)
abbrev pub IsAbsolute : List ℕ → Type 0
IsAbsolute x = (are_uri_octets x ≡ true) × (scheme rest : List ℕ) × (x ≡ scheme ++ 58 ∷ rest) × (is_scheme scheme ≡ true)
