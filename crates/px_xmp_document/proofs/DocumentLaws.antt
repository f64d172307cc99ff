-- The first fault of a document: octets with one are no document, and have no other.
use Rattle.std.proofs.Common.{◌≡◌, ◌⊎◌, ◌+◌, ℕ, Bool, true, false, Option, Some, None, List, [], ◌++◌, length, drop, refl, sym, ap, subst, ◌∙◌, inl, inr, arith}
use Rattle.std.proofs.lemmas.List.{drop_at}
use Rattle.px_xmp_text.specs.Characters.{IsFirstBad, CharactersOrFault}
use Rattle.px_xmp_marks.specs.Declarations.{Declared, declaration, DeclarationsAreRead}
use Rattle.px_xmp_document.specs.declared.faults.Cause.{Cause}
use Rattle.px_xmp_document.specs.declared.faults.Cause.TheVariants.{NoCharacter, OtherEncoding, Nesting, Attributes, Spaces}
use Rattle.px_xmp_document.specs.Elements.{AreElements, IsElementFault}
use Rattle.px_xmp_document.specs.Document.{is_read, IsSplit, IsDocument, order_mark_len}
use Rattle.px_xmp_document.specs.Faults.{HasEncoding, HasElementFault, IsFault}
use Rattle.px_xmp_document.specs.Laws.{OneElementFault, OneFault}

declared_same : (p q : Declared) → Some p ≡ Some q → (p.encoding ≡ q.encoding) × (p.size ≡ q.size)
declared_same p q h = let e : p ≡ q = cc in (ap (λ (u : Declared). u.encoding) e, ap (λ (u : Declared). u.size) e)

-- octets are split in one way
split_once : DeclarationsAreRead → (x d y f z : List ℕ) (e g : Option (List ℕ)) → IsSplit x d e y → IsSplit x f g z
    → (length d ≡ length f) × (e ≡ g) × (y ≡ z)
split_once law x d y f z e g (w, inl i) (v, inl j) =
    let p : Declared = record { encoding = e; size = length d } in
    let q : Declared = record { encoding = g; size = length f } in
    let same = declared_same p q (sym (law d y e i) ∙ ap declaration (sym w ∙ v) ∙ law f z g j) in
    (same.1, same.0, sym (drop_at d y (length d) refl) ∙ ap (drop (length d)) (sym w ∙ v) ∙ drop_at f z (length d) (sym same.1))
split_once law x d y f z e g (w, inl i) (v, inr (k, n, none)) = absurd (none d y e i w)
split_once law x d y f z e g (w, inr (k, n, none)) (v, inl j) = absurd (none f z g j v)
split_once law x d y f z e g (w, inr (k, n, none)) (v, inr (l, o, nothing)) = (
  ap length (k ∙ sym l),
  n ∙ sym o,
  sym (ap (λ (u : List ℕ). u ++ y) k) ∙ sym w ∙ v ∙ ap (λ (u : List ℕ). u ++ z) l,
)

both_bools : (b : Bool) → b ≡ true → b ≡ false → ⊥
both_bools b t f = let e : true ≡ false = sym t ∙ f in absurd (cc)

-- ---- the first fault, by layers

abbrev Layered : List ℕ → Cause → ℕ → Type 0
Layered x c n = ((c ≡ NoCharacter) × IsFirstBad x n) ⊎ ((c ≡ OtherEncoding) × HasEncoding x × (n ≡ 0)) ⊎ HasElementFault x c n

layered : (x : List ℕ) (c : Cause) (n : ℕ) → IsFault x c n → Layered x c n
layered x NoCharacter n h = inl (refl, h)
layered x OtherEncoding n h = inr (inl (refl, h.0, h.1))
layered x (Nesting c) n h = inr (inr h)
layered x (Attributes c) n h = inr (inr h)
layered x (Spaces c) n h = inr (inr h)

no_document : CharactersOrFault → DeclarationsAreRead → OneElementFault → (x : List ℕ) (c : Cause) (n : ℕ) → Layered x c n → IsDocument x → ⊥
no_document cs ds es x c n (inl (k, h)) a = (cs x n h).0 a.characters
no_document cs ds es x c n (inr (inl (k, h, z))) a =
    let same = split_once ds x h.declaration h.tree a.declaration a.tree h.encoding a.encoding h.parts a.parts in
    both_bools (is_read a.encoding) a.encoded (subst (λ (e : Option (List ℕ)). is_read e ≡ false) same.1 h.other)
no_document cs ds es x c n (inr (inr h)) a =
    let same = split_once ds x h.declaration h.tree a.declaration a.tree h.encoding a.encoding h.parts a.parts in
    (es h.tree c h.offset h.wrong).0 (subst AreElements (sym same.2) a.elements)

-- another encoding, and elements with a fault
encoded_once : DeclarationsAreRead → (x : List ℕ) (c : Cause) (n : ℕ) → HasEncoding x → HasElementFault x c n → ⊥
encoded_once ds x c n h g =
    let same = split_once ds x h.declaration h.tree g.declaration g.tree h.encoding g.encoding h.parts g.parts in
    both_bools (is_read g.encoding) g.encoded (subst (λ (e : Option (List ℕ)). is_read e ≡ false) same.1 h.other)

other_fault : CharactersOrFault → DeclarationsAreRead → OneElementFault → (x : List ℕ) (c d : Cause) (n m : ℕ) → Layered x c n → Layered x d m
    → (c ≡ d) × (n ≡ m)
other_fault cs ds es x c d n m (inl (k, h)) (inl (l, g)) = (k ∙ sym l, (cs x n h).1 m g)
other_fault cs ds es x c d n m (inl (k, h)) (inr (inl (l, g, z))) = absurd ((cs x n h).0 g.characters)
other_fault cs ds es x c d n m (inl (k, h)) (inr (inr g)) = absurd ((cs x n h).0 g.characters)
other_fault cs ds es x c d n m (inr (inl (k, h, y))) (inl (l, g)) = absurd ((cs x m g).0 h.characters)
other_fault cs ds es x c d n m (inr (inl (k, h, y))) (inr (inl (l, g, z))) = (k ∙ sym l, y ∙ sym z)
other_fault cs ds es x c d n m (inr (inl (k, h, y))) (inr (inr g)) = absurd (encoded_once ds x d m h g)
other_fault cs ds es x c d n m (inr (inr h)) (inl (l, g)) = absurd ((cs x m g).0 h.characters)
other_fault cs ds es x c d n m (inr (inr h)) (inr (inl (l, g, z))) = absurd (encoded_once ds x c n g h)
other_fault cs ds es x c d n m (inr (inr h)) (inr (inr g)) =
    let same = split_once ds x h.declaration h.tree g.declaration g.tree h.encoding g.encoding h.parts g.parts in
    let wrong : IsElementFault g.tree c h.offset = subst (λ (y : List ℕ). IsElementFault y c h.offset) same.2 h.wrong in
    let one = (es g.tree c h.offset wrong).1 d g.offset g.wrong in
    let p = h.place in
    let q = g.place in (one.0, omega (arith, p, q, same.0, one.1))

pub one_fault : CharactersOrFault → DeclarationsAreRead → OneElementFault → OneFault
one_fault cs ds es x c n (k, h, p) =
    let y = drop (order_mark_len x) x in (
      no_document cs ds es y c k (layered y c k h),
      λ d m (j, g, q).
          let one = other_fault cs ds es y c d k j (layered y c k h) (layered y d j g) in
          (one.0, p ∙ ap (λ (z : ℕ). order_mark_len x + z) one.1 ∙ sym q),
    )

-- what is wrong with elements is wrong with the document
pub element_is_fault : (x : List ℕ) (c : Cause) (n : ℕ) → HasElementFault x c n → IsFault x c n
element_is_fault x NoCharacter n h = absurd h.wrong
element_is_fault x OtherEncoding n h = absurd h.wrong
element_is_fault x (Nesting c) n h = h
element_is_fault x (Attributes c) n h = h
element_is_fault x (Spaces c) n h = h

-- octets without a declaration

pub none_splits : DeclarationsAreRead → (x : List ℕ) → declaration x ≡ None → IsSplit x [] None x
none_splits law x h = (refl, inr (refl, refl, λ d y e i w. let g = sym h ∙ ap declaration w ∙ law d y e i in absurd (cc)))
