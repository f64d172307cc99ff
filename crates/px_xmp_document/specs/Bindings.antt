-- How attributes declare prefixes. Namespaces in XML 1.0, 3 and 5.
use Rattle.std.specs.Prelude.{◌==◌, ◌&&◌, ◌||◌, ℕ, Bool, not, nat_le, if◌then◌else◌, codes}
use Rattle.std.specs.Prelude.{Option, Some, None, List, [], ◌∷◌, length, Result, Ok, Err}
use Rattle.px_xmp_marks.specs.Reading.{Named, Attr}
use Rattle.px_xmp_marks.specs.Declarations.{every}
use Rattle.px_xmp_forms.specs.Spaces.{is_rare_space}
use Rattle.px_xmp_document.specs.declared.faults.SpaceCause.{SpaceCause}
use Rattle.px_xmp_document.specs.declared.faults.SpaceCause.TheVariants.{RareSpace, Reserved, TooMany}
use Rattle.px_xmp_document.specs.Scopes.{Item, Declaration, limit, is_same, xml_space, xmlns_space}

-- the prefix that an attribute with this name declares (3, productions 1 to 3)
abbrev pub declared_prefix : Named → Option (List ℕ)
declared_prefix n =
    if is_same n.prefix (codes "xmlns") then Some n.local
    else if is_same n.prefix [] && is_same n.local (codes "xmlns") then Some n.prefix
    else None

-- a limit of this reader: the octets of a namespace's name, which mean themselves
abbrev pub is_plain : ℕ → Bool
is_plain o = nat_le 33 o && nat_le o 126 && not (o == 38)

-- another limit: the octets of a namespace's name, which each property of a normal form repeats
abbrev pub space_limit : ℕ
space_limit = 256

-- a namespace's name that this reader compares
abbrev pub is_usual_space : List ℕ → Bool
is_usual_space u = nat_le (length u) space_limit && every is_plain u

-- one of the two is true, and the other isn't
abbrev pub differ : Bool → Bool → Bool
differ a b = if a then not b else b

-- No declaration binds the prefix xmlns, or another prefix to its namespace; the prefix xml is bound to its own namespace
-- alone, and no other prefix is bound to that (3). No prefix is bound to no namespace (5, No Prefix Undeclaring).
abbrev pub is_reserved : List ℕ → List ℕ → Bool
is_reserved p u =
    is_same p (codes "xmlns") || is_same u xmlns_space || differ (is_same p (codes "xml")) (is_same u xml_space)
    || (is_same u [] && not (is_same p []))

-- a namespace that is left to another reader; the empty name is of none
abbrev pub is_left : List ℕ → Bool
is_left u = not (is_same u []) && is_rare_space u

-- what is in scope after a declaration, or what is wrong with it
abbrev pub with_declaration : List ℕ → List ℕ → List Item → Result (List Item) SpaceCause
with_declaration p u scope =
    if not (is_usual_space u) then Err RareSpace
    else if is_reserved p u then Err Reserved
    else if is_left u then Err RareSpace
    else if nat_le limit (length scope) then Err TooMany
    else Ok (Declaration p u ∷ scope)

-- what is in scope after a declaration of a prefix, by f; without one, what was
abbrev pub or_same : (List ℕ → Result (List Item) SpaceCause) → List Item → Option (List ℕ) → Result (List Item) SpaceCause
or_same f scope None = Ok scope
or_same f scope (Some p) = f p

-- what is in scope after an attribute, or what is wrong with it
abbrev pub with_attribute : Attr → List Item → Result (List Item) SpaceCause
with_attribute a scope = or_same (λ p. with_declaration p a.value scope) scope (declared_prefix a.name)

-- the result of f of what is in scope, unless something is wrong already
abbrev pub and_then : Result (List Item) SpaceCause → (List Item → Result (List Item) SpaceCause) → Result (List Item) SpaceCause
and_then (Err c) f = Err c
and_then (Ok scope) f = f scope

-- what is in scope after attributes, in order, or what is wrong with the first that is wrong
abbrev pub with_attributes : List Attr → List Item → Result (List Item) SpaceCause
with_attributes [] scope = Ok scope
with_attributes (a ∷ more) scope = and_then (with_attribute a scope) (λ inner. with_attributes more inner)
