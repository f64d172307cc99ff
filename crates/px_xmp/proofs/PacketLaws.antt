-- What is around a document, and the document, are the packet.
use Rattle.std.proofs.Common.{◌≡◌, ◌+◌, ◌++◌, ◌∙◌, inl, inr, ℕ, Option, Some, None, List, take, drop, refl, sym, ap, subst, append_assoc}
use Rattle.std.proofs.lemmas.List.{take-append-drop, take_at, drop-drop}
use Rattle.px_xmp_marks.specs.Declarations.{Declared, declaration, IsDeclaration, DeclarationsAreRead, OnlyDeclarationsAreRead}
use Rattle.px_xmp_document.specs.Document.{IsSplit, order_mark_len}

pub rest_joined : (r d a : List ℕ) (m : ℕ) → d ≡ take m r → a ≡ drop m r → r ≡ d ++ a
rest_joined r d a m hd ha =
    sym (take-append-drop m r) ∙ ap (λ (z : List ℕ). z ++ drop m r) (sym hd) ∙ ap (λ (z : List ℕ). d ++ z) (sym ha)

pub parts_joined : (x b r d a : List ℕ) (n m : ℕ) → b ≡ take n x → r ≡ drop n x → d ≡ take m r → a ≡ drop m r → x ≡ b ++ d ++ a
parts_joined x b r d a n m hb hr hd ha =
    sym (take-append-drop n x) ∙ ap (λ (z : List ℕ). z ++ drop n x) (sym hb)
    ∙ ap (λ (z : List ℕ). b ++ z) (sym hr ∙ rest_joined r d a m hd ha) ∙ sym (append_assoc b d a)

-- ---- the declaration

abbrev SplitsAt : List ℕ → ℕ → Type 0
SplitsAt x n = (e : Option (List ℕ)) × IsSplit x (take n x) e (drop n x)

pub some_splits : OnlyDeclarationsAreRead → (x : List ℕ) (d : Declared) → declaration x ≡ Some d → SplitsAt x d.size
some_splits only x d h =
    let (y, rest, w, size, is) = only x d h in
    let front : take d.size x ≡ y = ap (take d.size) w ∙ take_at y rest d.size (sym size) in
    (d.encoding, (sym (take-append-drop d.size x), inl (subst (λ (z : List ℕ). IsDeclaration z d.encoding) (sym front) is)))

pub none_splits : DeclarationsAreRead → (x : List ℕ) → declaration x ≡ None → SplitsAt x 0
none_splits law x h = (None, (refl, inr (refl, refl, λ d y e i w. let wrong = sym h ∙ ap declaration w ∙ law d y e i in absurd (cc))))

-- a declaration after a byte order mark
pub head_splits : (x y : List ℕ) (m n : ℕ) → m ≡ order_mark_len x → y ≡ drop m x → SplitsAt y n
    → (d : List ℕ) × (e : Option (List ℕ)) × IsSplit (drop (order_mark_len x) x) d e (drop (m + n) x)
head_splits x y m n mark octets (e, split) =
    let whole : y ≡ drop (order_mark_len x) x = octets ∙ ap (λ (k : ℕ). drop k x) mark in
    let rest : drop n y ≡ drop (m + n) x = ap (drop n) octets ∙ drop-drop n m x in
    (take n y, e, subst (λ (z : List ℕ). IsSplit z (take n y) e (drop (m + n) x)) whole (subst (λ (z : List ℕ). IsSplit y (take n y) e z) rest split))
