-- How deep what is read is.
use Rattle.std.proofs.Common.{◌≡◌, ◌≤◌, ◌++◌, ℕ, suc, List, [], ◌∷◌, sym, subst, arith}
use Rattle.std.specs.List.Sorted.{IsPermutation}
use Rattle.std.proofs.lemmas.List.Sorted.{All-permutation}
use Rattle.std.proofs.lemmas.List.Elements.{All-from_recursion, recursion_from_All}
use Rattle.px_xmp_text.specs.Values.{Label, Compound, Structure, Bag, Seq, Alt, Content, End}
use Rattle.px_xmp_markup.specs.Nesting.{limit}
use Rattle.px_xmp_forms.specs.Entries.{Value, Plain, Inside, Entry, before, row}
use Rattle.px_xmp_forms.specs.declared.labels.Container.TheVariants as containers
use Rattle.px_xmp.specs.Meaning.{Joins, IsRow}
use Rattle.px_xmp.specs.Readable.{IsShallow}
use Rattle.px_xmp.specs.declared.elements.Node.{Node}
use Rattle.px_xmp.specs.declared.elements.Node.TheVariants as nodes
use Rattle.px_xmp.specs.calls.Opening.{node_view}
use Rattle.px_xmp.specs.calls.Contents.{AreShallow, IsShallowInside, IsShallowValue, IsNodeDepth}

-- ---- entries

pub shallow_append : (depth : ℕ) (es fs : List Entry) → AreShallow depth es → AreShallow depth fs → AreShallow depth (es ++ fs)
shallow_append depth [] fs h k = k
shallow_append depth (e ∷ es) fs h k = (h.0, shallow_append depth es fs h.1 k)

before_shallow : (depth : ℕ) (l : Label) (v : Value) (c : Content) → IsShallow depth (before l v End) → IsShallow depth c → IsShallow depth (before l v c)
before_shallow depth l (Plain p) c h k = (h.0, k)
before_shallow depth l (Inside s inner) c h k = (h.0, h.1, k)

pub entries_shallow : (depth : ℕ) (es : List Entry) → AreShallow depth es → IsShallow depth (row es)
entries_shallow depth [] h = tt
entries_shallow depth (e ∷ es) h = before_shallow depth e.label e.value (row es) h.0 (entries_shallow depth es h.1)

shallow_moved : (depth : ℕ) (es fs : List Entry) → IsPermutation es fs → AreShallow depth es → AreShallow depth fs
shallow_moved depth es fs h k =
    recursion_from_All (λ e. IsShallow depth (before e.label e.value End)) fs
    (All-permutation (λ e. IsShallow depth (before e.label e.value End)) es fs h
    (All-from_recursion (λ e. IsShallow depth (before e.label e.value End)) es k))

shallow_joined : (depth : ℕ) (s : Compound) (es fs : List Entry) → Joins s es fs → AreShallow depth es → AreShallow depth fs
shallow_joined depth Structure es fs h k = shallow_moved depth es fs h.1.same k
shallow_joined depth Bag es fs h k = shallow_moved depth es fs h.same k
shallow_joined depth Seq es fs h k = subst (AreShallow depth) (sym h) k
shallow_joined depth Alt es fs h k = subst (AreShallow depth) (sym h) k

pub row_shallow : (depth : ℕ) (s : Compound) (es : List Entry) (c : Content) → IsRow s es c → AreShallow depth es → IsShallow depth c
row_shallow depth s es c (fs, h, e) k = subst (IsShallow depth) (sym e) (entries_shallow depth fs (shallow_joined depth s es fs h k))

-- ---- values

-- an element with its value
pub entry_shallow : (outer depth : ℕ) (l : Label) (v : Value) → depth ≡ suc outer → depth ≤ limit → IsShallowValue depth v → IsShallow outer (before l v End)
entry_shallow outer depth l v e within h =
    inside_shallow outer l v (omega (arith, e, within)) (subst (λ (z : ℕ). IsShallowValue z v) e h)
  where
    inside_shallow : (outer : ℕ) (l : Label) (v : Value) → suc outer ≤ limit → IsShallowValue (suc outer) v → IsShallow outer (before l v End)
    inside_shallow outer l (Plain p) within h = (omega (arith, within), tt)
    inside_shallow outer l (Inside Structure c) within h = (within, h, tt)
    inside_shallow outer l (Inside Bag c) within h = (h.0, h.1, tt)
    inside_shallow outer l (Inside Seq c) within h = (h.0, h.1, tt)
    inside_shallow outer l (Inside Alt c) within h = (h.0, h.1, tt)

-- a node, by what is in it
pub node_shallow : (node : Node) (outer depth : ℕ) (c : Content) → IsNodeDepth node outer depth → IsShallow depth c
    → IsShallowInside outer (node_view node) c
node_shallow nodes.Description outer depth c e h = subst (λ (z : ℕ). IsShallow z c) e h
node_shallow (nodes.Container containers.Bag) outer depth c (e, within) h =
    (subst (λ (z : ℕ). z ≤ limit) e within, subst (λ (z : ℕ). IsShallow z c) e h)
node_shallow (nodes.Container containers.Seq) outer depth c (e, within) h =
    (subst (λ (z : ℕ). z ≤ limit) e within, subst (λ (z : ℕ). IsShallow z c) e h)
node_shallow (nodes.Container containers.Alt) outer depth c (e, within) h =
    (subst (λ (z : ℕ). z ≤ limit) e within, subst (λ (z : ℕ). IsShallow z c) e h)
