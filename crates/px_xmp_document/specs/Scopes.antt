-- What is in scope, and what prefixes are bound to. Namespaces in XML 1.0, 3 and 6.1.
use Rattle.std.specs.Prelude.{ℕ, Bool, nat_eq, if◌then◌else◌, codes, Option, Some, None, List, [], ◌∷◌}
use Rattle.std.specs.Cmp.Lexicographic.{pointwise}

-- what is in scope: an open element, or the declaration of a prefix, which is empty for the default namespace. In a list
-- of these the innermost element is first, after its declarations, the last one first
pub data Item : Type 0 where
  Element : Item
  Declaration : (prefix space : List ℕ) → Item

-- a limit of this reader: no more elements and declarations are in scope
abbrev pub limit : ℕ
limit = 356

-- two texts have the same octets
abbrev pub is_same : List ℕ → List ℕ → Bool
is_same x y = pointwise nat_eq x y

-- the namespace of the prefix xml (3)
abbrev pub xml_space : List ℕ
xml_space = codes "http://www.w3.org/XML/1998/namespace"

-- the namespace of the prefix xmlns (3)
abbrev pub xmlns_space : List ℕ
xmlns_space = codes "http://www.w3.org/2000/xmlns/"

-- what a prefix is bound to without a declaration (3, Reserved Prefixes and Namespace Names)
abbrev pub built_in : List ℕ → Option (List ℕ)
built_in p =
    if is_same p (codes "xml") then Some xml_space
    else if is_same p (codes "xmlns") then Some xmlns_space
    else None

-- what a prefix is bound to: by its innermost declaration (6.1)
abbrev pub space_of : List ℕ → List Item → Option (List ℕ)
space_of p [] = built_in p
space_of p (Element ∷ outer) = space_of p outer
space_of p (Declaration q u ∷ outer) = if is_same q p then Some u else space_of p outer

-- what is in scope after the innermost element: no declaration of it (6.1)
abbrev pub ended : List Item → List Item
ended [] = []
ended (Element ∷ outer) = outer
ended (Declaration p u ∷ outer) = ended outer
