-- What is in scope: how it is stored, and how attributes change it.
use Rattle.std.proofs.Common.{◌≡◌, ◌≤◌, ◌<◌, ◌+◌, ◌-◌, ℕ, Bool, Option, Some, None, MatchOption, List, [], ◌∷◌, ◌++◌, length, take, set, get_or, map, reverse, Result, Ok, Err, sym, ap, subst, ◌∙◌, arith}
use Rattle.std.proofs.lemmas.List.{take_more, take_more_set, map-append, reverse-append, length-reverse, length-map, length-take-le}
use Rattle.px_xmp_marks.specs.Reading.{Attr, Next, next_attribute}
use Rattle.px_xmp_marks.specs.Laws.{AttributesInOrder}
use Rattle.px_xmp_document.specs.declared.faults.SpaceCause.{SpaceCause}
use Rattle.px_xmp_document.specs.declared.scopes.Entry.{Entry}
use Rattle.px_xmp_document.specs.Scopes.{Item}
use Rattle.px_xmp_document.specs.Bindings.{with_attribute, with_attributes, and_then}
use Rattle.px_xmp_document.specs.calls.Entries.{entry_view, entries_of}
use Rattle.px_xmp_document.specs.calls.Passing.{AreListed}

-- ---- stored entries

pub length_entries_of : (n : ℕ) (entries : List Entry) → n ≤ length entries → length (entries_of n entries) ≡ n
length_entries_of n entries h =
    length-reverse (map entry_view (take n entries)) ∙ length-map (take n entries) entry_view ∙ length-take-le n entries h

one_last : (entries : List Entry) (e : Entry) → reverse (map entry_view (entries ++ e ∷ [])) ≡ entry_view e ∷ reverse (map entry_view entries)
one_last entries e = ap reverse (map-append entry_view entries (e ∷ [])) ∙ reverse-append (map entry_view entries) (entry_view e ∷ [])

pub entries_push : (n : ℕ) (entries : List Entry) (e : Entry) → n < length entries
    → entries_of (n + 1) (set entries n e) ≡ entry_view e ∷ entries_of n entries
entries_push n entries e h = ap (λ (x : List Entry). reverse (map entry_view x)) (take_more_set entries n e h) ∙ one_last (take n entries) e

pub entries_pop : (n : ℕ) (entries : List Entry) (d : Entry) → 1 ≤ n → n ≤ length entries
    → entries_of n entries ≡ entry_view (get_or entries (n - 1) d) ∷ entries_of (n - 1) entries
entries_pop n entries d l h =
    let e : n - 1 + 1 ≡ n = omega arith in
    ap (λ (k : ℕ). entries_of k entries) (sym e)
    ∙ ap (λ (x : List Entry). reverse (map entry_view x)) (take_more entries (n - 1) d (omega arith))
    ∙ one_last (take (n - 1) entries) (get_or entries (n - 1) d)

-- ---- attributes one after another

-- n is the first attribute, and others follow it
abbrev Follows : Next → List Attr → Type 0
Follows n attributes = (more : List Attr) × (attributes ≡ n.attribute ∷ more) × AreListed n.rest more

pub next_listed : AttributesInOrder → (x : List ℕ) (tail : List Attr) (n : Next) → AreListed x tail → next_attribute x ≡ Some n → Follows n tail
next_listed law x tail n l e = subst (λ (q : Option Next). MatchOption q (tail ≡ []) (λ (m : Next). Follows m tail)) e (law x tail l)

pub none_listed : AttributesInOrder → (x : List ℕ) (tail : List Attr) → AreListed x tail → next_attribute x ≡ None → tail ≡ []
none_listed law x tail l e = subst (λ (q : Option Next). MatchOption q (tail ≡ []) (λ (m : Next). Follows m tail)) e (law x tail l)

-- what is left of the attributes leads to what all of them lead to
abbrev pub Left : List ℕ → List Item → List Attr → List Item → Type 0
Left y scope attributes outer = (tail : List Attr) × AreListed y tail × (with_attributes tail scope ≡ with_attributes attributes outer)

pub next_left : AttributesInOrder → (y : List ℕ) (s t outer : List Item) (attributes : List Attr) (n : Next) → Left y s attributes outer
    → next_attribute y ≡ Some n → with_attribute n.attribute s ≡ Ok t → Left n.rest t attributes outer
next_left law y s t outer attributes n (tail, l, e) f h =
    let (more, same, listed) = next_listed law y tail n l f in (
      more,
      listed,
      sym (ap (λ (r : Result (List Item) SpaceCause). and_then r (λ (z : List Item). with_attributes more z)) h)
          ∙ ap (λ (z : List Attr). with_attributes z s) (sym same) ∙ e,
    )

pub wrong_left : AttributesInOrder → (y : List ℕ) (s outer : List Item) (attributes : List Attr) (n : Next) (c : SpaceCause) → Left y s attributes outer
    → next_attribute y ≡ Some n → with_attribute n.attribute s ≡ Err c → with_attributes attributes outer ≡ Err c
wrong_left law y s outer attributes n c (tail, l, e) f h =
    let (more, same, listed) = next_listed law y tail n l f in
    sym e ∙ ap (λ (z : List Attr). with_attributes z s) same
    ∙ ap (λ (r : Result (List Item) SpaceCause). and_then r (λ (z : List Item). with_attributes more z)) h

pub none_left : AttributesInOrder → (y : List ℕ) (s outer : List Item) (attributes : List Attr) → Left y s attributes outer
    → next_attribute y ≡ None → with_attributes attributes outer ≡ Ok s
none_left law y s outer attributes (tail, l, e) f = sym e ∙ ap (λ (z : List Attr). with_attributes z s) (none_listed law y tail l f)

-- a test of what is left of the attributes answers as that of all
abbrev pub TestLeft : (List Attr → Bool) → List ℕ → List Attr → Type 0
TestLeft f y attributes = (tail : List Attr) × AreListed y tail × (f tail ≡ f attributes)

pub next_test : AttributesInOrder → (f : List Attr → Bool) (y : List ℕ) (attributes : List Attr) (n : Next) → TestLeft f y attributes
    → next_attribute y ≡ Some n → ((more : List Attr) → AreListed n.rest more → f (n.attribute ∷ more) ≡ f more) → TestLeft f n.rest attributes
next_test law f y attributes n (tail, l, e) h step =
    let (more, same, listed) = next_listed law y tail n l h in (more, listed, sym (step more listed) ∙ ap f (sym same) ∙ e)

pub this_test : AttributesInOrder → (f : List Attr → Bool) (b : Bool) (y : List ℕ) (attributes : List Attr) (n : Next) → TestLeft f y attributes
    → next_attribute y ≡ Some n → ((more : List Attr) → AreListed n.rest more → f (n.attribute ∷ more) ≡ b) → f attributes ≡ b
this_test law f b y attributes n (tail, l, e) h step =
    let (more, same, listed) = next_listed law y tail n l h in sym e ∙ ap f same ∙ step more listed

pub none_test : AttributesInOrder → (f : List Attr → Bool) (y : List ℕ) (attributes : List Attr) → TestLeft f y attributes
    → next_attribute y ≡ None → f attributes ≡ f []
none_test law f y attributes (tail, l, e) h = sym e ∙ ap f (none_listed law y tail l h)
