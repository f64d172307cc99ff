-- The namespaces that this reader leaves to another one.
use Rattle.std.specs.Prelude.{◌==◌, ◌&&◌, ◌||◌, ℕ, Bool, not, nat_eq, bytes_eq, codes, List, length}
use Rattle.std.specs.List.{list_all, starts_with}
use Rattle.px_xmp_forms.specs.Labels.{before_name}
use Rattle.px_xmp_forms.specs.Uris.{is_uri_octet}

-- RDF's own, that of x:xmpmeta, and XML's own
abbrev pub rdf_space : List ℕ
rdf_space = codes "http://www.w3.org/1999/02/22-rdf-syntax-ns#"

-- the namespace of x:xmpmeta (XMP part 1, 7.3.3)
abbrev pub meta_space : List ℕ
meta_space = codes "adobe:ns:meta/"

-- the namespace of the prefix xml (Namespaces in XML 1.0, 3)
abbrev pub xml_space : List ℕ
xml_space = codes "http://www.w3.org/XML/1998/namespace"

-- the namespace of the prefix xmlns (Namespaces in XML 1.0, 3)
abbrev pub xmlns_space : List ℕ
xmlns_space = codes "http://www.w3.org/2000/xmlns/"

-- a namespace that this reader knows
abbrev pub is_known_space : List ℕ → Bool
is_known_space u = bytes_eq u rdf_space || bytes_eq u meta_space || bytes_eq u xml_space

-- an octet of a URI of ASCII that no serialiser writes as a reference
abbrev pub is_space_octet : ℕ → Bool
is_space_octet o = is_uri_octet o && not (o == 38) && not (o == 39)

-- another namespace, which has odd octets, could be part of a name, or begins as one of RDF's or
-- XML's own
abbrev pub is_rare_space : List ℕ → Bool
is_rare_space u =
    not (is_known_space u)
    && (not (list_all is_space_octet u) || (length (before_name u) == 0) || starts_with nat_eq u rdf_space || starts_with nat_eq u xml_space
    || starts_with nat_eq u xmlns_space)
