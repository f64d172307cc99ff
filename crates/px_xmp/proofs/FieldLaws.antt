-- The values of attributes are no longer than the octets of which they are part.
use Rattle.std.proofs.Common.{◌≤◌, ◌+◌, ◌++◌, inl, inr, ℕ, Bool, true, false, if◌then◌else◌, List, [], ◌∷◌, length, map, sym, ap, subst, arith, length-append}
use Rattle.px_bytes.specs.Parts.{limit}
use Rattle.px_xmp_marks.specs.Reading.{Named, Attr}
use Rattle.px_xmp_marks.specs.Grammar.{closing, IsAttribute, AreAttributes, IsStartTag}
use Rattle.px_xmp_document.specs.Scopes.{Item}
use Rattle.px_xmp.specs.Tags.{Tag, field_of, is_plain, plain, fields_in, inside}
use Rattle.px_xmp.specs.Nodes.{Nodes, Nothing, Words, Element, AreNodes}
use Rattle.px_xmp.specs.Limits.{DeclareShortLanguages}
use Rattle.px_xmp.specs.calls.Fits.{FieldsFit, NodesFit}
use Rattle.px_xmp.proofs.StepLaws.{nodes_shorter}

value_shorter : (x : List ℕ) (a : Attr) → IsAttribute x a → length a.value ≤ length x
value_shorter x a h =
    omega (
      arith,
      ap length h.whole,
      length-append h.name_octets (h.equals ++ h.quoted),
      length-append h.equals h.quoted,
      ap length h.value.whole,
      length-append a.value (h.value.quote ∷ []),
    )

one_fits : (scope : List Item) (a : Attr) (more : List Attr) (b : Bool) → length a.value ≤ limit → FieldsFit (map (field_of scope) more)
    → FieldsFit (map (field_of scope) (if b then a ∷ more else more))
one_fits scope a more true h k = (h, k)
one_fits scope a more false h k = k

attributes_fit : (scope : List Item) (x : List ℕ) (all : List Attr) → AreAttributes x all → length x ≤ limit → FieldsFit (fields_in scope all)
attributes_fit scope x [] h few = tt
attributes_fit scope x (a ∷ more) (s, y, rest, spaces, some, one, others, whole) few =
    let sum = length-append s (y ++ rest) in
    one_fits scope a (plain more) (is_plain a.name)
    (omega (arith, few, ap length whole, sum, length-append y rest, value_shorter y a one))
    (attributes_fit scope rest more others (omega (arith, few, ap length whole, sum, length-append y rest)))

tag_fits : (scope : List Item) (x : List ℕ) (n : Named) (all : List Attr) (empty : Bool) → IsStartTag x n all empty → length x ≤ limit
    → FieldsFit (fields_in scope all)
tag_fits scope x n all empty (y, z, name, attributes, whole) few =
    attributes_fit scope z all attributes
    (omega (arith, few, ap length whole, length-append y (z ++ closing empty), length-append z (closing empty)))

-- of nodes in a row each tag fits, if its language is short
pub nodes_fit : (nodes : Nodes) (scope : List Item) (at : ℕ) (x y : List ℕ) → AreNodes nodes scope at x y → DeclareShortLanguages nodes → length x ≤ limit
    → NodesFit nodes
nodes_fit Nothing scope at x y row h few = tt
nodes_fit (Words t more) scope at x y (m, rest, i, w, r) h few =
    nodes_fit more scope (at + length m) rest y r h (omega (arith, few, ap length w, length-append m rest))
nodes_fit (Element tag place inner more) scope at x y (n, xs, m, rest, same, here, w, inl (i, none, r)) (language, within, others) few =
    let sum = length-append m rest in (
      (language, subst (λ (z : Tag). FieldsFit z.fields) (sym same) (tag_fits (inside scope xs) m n xs true i (omega (arith, few, ap length w, sum)))),
      subst NodesFit (sym none) tt,
      nodes_fit more scope (at + length m) rest y r others (omega (arith, few, ap length w, sum)),
    )
nodes_fit (Element tag place inner more) scope at x y (n, xs, m, rest, same, here, w, inr (e, tail, i, c, ends, r)) (language, within, others) few =
    let sum = length-append m rest in (
      (language, subst (λ (z : Tag). FieldsFit z.fields) (sym same) (tag_fits (inside scope xs) m n xs false i (omega (arith, few, ap length w, sum)))),
      nodes_fit inner (inside scope xs) (at + length m) rest (e ++ tail) c within (omega (arith, few, ap length w, sum)),
      nodes_fit more scope _ tail y r others
          (omega (arith, few, ap length w, sum, nodes_shorter inner _ _ rest (e ++ tail) c, length-append e tail)),
    )
