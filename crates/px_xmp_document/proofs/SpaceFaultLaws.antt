-- The first fault: octets with one are no row in which each prefix is declared, and have no other.
use Rattle.std.proofs.Common.{◌≡◌, ◌⊎◌, ℕ, None, List, [], ◌∷◌, ◌++◌, length, drop, Result, Ok, Err, refl, sym, ap, subst, ◌∙◌, inl, inr, arith, length-drop}
use Rattle.std.proofs.lemmas.List.{drop_at}
use Rattle.px_xmp_marks.specs.Laws.{StartTagsAreRead}
use Rattle.px_xmp_marks.specs.Marks.{mark_len, text_len, MarksAreRead}
use Rattle.px_xmp_document.specs.declared.faults.SpaceCause.{SpaceCause}
use Rattle.px_xmp_document.specs.declared.faults.SpaceCause.TheVariants.{NoMark}
use Rattle.px_xmp_document.specs.Pieces.{Piece, IsPiece, ArePieces}
use Rattle.px_xmp_document.specs.Scopes.{Item}
use Rattle.px_xmp_document.specs.Tags.{passed}
use Rattle.px_xmp_document.specs.SpaceFaults.{Lead, HasSpaces, IsFaulty, IsSpaceFault}
use Rattle.px_xmp_document.specs.Laws.{OneSpaceFault}
use Rattle.px_xmp_document.proofs.PieceLaws.{piece_mark, same_piece, Found}

ok_same : (s t : List Item) → ◌≡◌ {A = Result (List Item) SpaceCause} (Ok s) (Ok t) → s ≡ t
ok_same s t h = cc

err_same : (c d : SpaceCause) → ◌≡◌ {A = Result (List Item) SpaceCause} (Err c) (Err d) → c ≡ d
err_same c d h = cc

-- a mark with nothing wrong is at the start
abbrev Goes : List ℕ → List Item → Type 0
Goes y scope = (p : Piece) × (m rest : List ℕ) × (next : List Item) × IsPiece p m rest × (y ≡ m ++ rest) × (passed p scope ≡ Ok next)

-- two rows of the same octets end at the same place, or one of them goes on where the other ends
aligned : MarksAreRead → StartTagsAreRead → (ps qs : List Piece) (x y z : List ℕ) (o s t : List Item) → ArePieces ps x y → ArePieces qs x z
    → Lead o ps s → Lead o qs t → ((y ≡ z) × (s ≡ t)) ⊎ Goes y s ⊎ Goes z t
aligned marks starts [] [] x y z o s t a b f g = inl (sym a ∙ b, sym f ∙ g)
aligned marks starts [] (q ∷ qs) x y z o s t a (n, tail, j, v, others) f (u, h, g) =
    inr (inl (q, n, tail, u, j, sym a ∙ v, ap (passed q) (sym f) ∙ h))
aligned marks starts (p ∷ ps) [] x y z o s t (m, rest, i, w, more) b (u, h, f) g =
    inr (inr (p, m, rest, u, i, sym b ∙ w, ap (passed p) (sym g) ∙ h))
aligned marks starts (p ∷ ps) (q ∷ qs) x y z o s t (m, rest, i, w, more) (n, tail, j, v, others) (u, h, f) (r, k, g) =
    let same = same_piece marks starts p q m rest n tail i j (sym w ∙ v) in
    let next : u ≡ r = ok_same u r (sym h ∙ ap (λ (c : Piece). passed c o) same.0 ∙ k) in
    aligned marks starts ps qs tail y z r s t (subst (λ (c : List ℕ). ArePieces ps c y) same.1 more) others
    (subst (λ (c : List Item). Lead c ps s) next f) g

no_mark_len : mark_len [] ≡ None
unfolding mark_len text_len
no_mark_len = refl

nothing_goes : MarksAreRead → (scope : List Item) → Goes [] scope → ⊥
nothing_goes marks scope (p, m, rest, next, i, w, h) =
    let wrong = sym no_mark_len ∙ ap mark_len w ∙ marks m rest (piece_mark p m rest i) in absurd (cc)

fault_stops : MarksAreRead → StartTagsAreRead → (scope : List Item) (c : SpaceCause) (y : List ℕ) → IsFaulty scope c y → Goes y scope → ⊥
fault_stops marks starts scope c y (inl (e, none)) (p, m, rest, next, i, w, h) = none p m rest i w
fault_stops marks starts scope c y (inr (q, n, tail, j, v, k)) (p, m, rest, next, i, w, h) =
    let same = same_piece marks starts q p n tail m rest j i (sym v ∙ w) in
    let wrong = sym k ∙ ap (λ (z : Piece). passed z scope) same.0 ∙ h in absurd (cc)

fault_once : MarksAreRead → StartTagsAreRead → (scope : List Item) (c d : SpaceCause) (y : List ℕ) → IsFaulty scope c y → IsFaulty scope d y → c ≡ d
fault_once marks starts scope c d y (inl (e, none)) (inl (f, nothing)) = e ∙ sym f
fault_once marks starts scope c d y (inl (e, none)) (inr (q, n, tail, j, v, k)) = absurd (none q n tail j v)
fault_once marks starts scope c d y (inr (p, m, rest, i, w, h)) (inl (f, none)) = absurd (none p m rest i w)
fault_once marks starts scope c d y (inr (p, m, rest, i, w, h)) (inr (q, n, tail, j, v, k)) =
    let same = same_piece marks starts p q m rest n tail i j (sym w ∙ v) in
    err_same c d (sym h ∙ ap (λ (z : Piece). passed z scope) same.0 ∙ k)

no_row : MarksAreRead → StartTagsAreRead → (x : List ℕ) (c : SpaceCause) (n : ℕ) → IsSpaceFault x c n → HasSpaces x → ⊥
no_row marks starts x c n h (ps, last, a, l) = elim (aligned marks starts h.before ps x (drop n x) [] [] h.scope last h.marked a h.leads l) [
  | inl e ↦ let within = h.within in omega (arith, within, ap length e.0, length-drop n x)
  | inr s ↦ elim s [
    | inl g ↦ fault_stops marks starts h.scope c (drop n x) h.wrong g
    | inr g ↦ nothing_goes marks last g
  ]
]

other_fault : MarksAreRead → StartTagsAreRead → (x : List ℕ) (c d : SpaceCause) (n m : ℕ) → IsSpaceFault x c n → IsSpaceFault x d m → (c ≡ d) × (n ≡ m)
other_fault marks starts x c d n m h g = elim (aligned marks starts h.before g.before x (drop n x) (drop m x) [] h.scope g.scope h.marked g.marked h.leads g.leads) [
  | inl e ↦
      let v = h.within in
      let w = g.within in (
        fault_once marks starts g.scope c d (drop m x) (subst (λ (s : List Item). IsFaulty s c (drop m x)) e.1 (subst (λ (y : List ℕ). IsFaulty h.scope c y) e.0 h.wrong)) g.wrong,
        omega (arith, v, w, ap length e.0, length-drop n x, length-drop m x),
      )
  | inr s ↦ elim s [
    | inl t ↦ absurd (fault_stops marks starts h.scope c (drop n x) h.wrong t)
    | inr t ↦ absurd (fault_stops marks starts g.scope d (drop m x) g.wrong t)
  ]
]

pub one_space_fault : MarksAreRead → StartTagsAreRead → OneSpaceFault
one_space_fault marks starts x c n h = (no_row marks starts x c n h, λ d m g. other_fault marks starts x c d n m h g)

-- ---- the next mark

row_more : (ps : List Piece) (x y m rest : List ℕ) (p : Piece) → ArePieces ps x y → y ≡ m ++ rest → IsPiece p m rest
    → ArePieces (ps ++ p ∷ []) x rest
row_more [] x y m rest p a e i = (m, rest, i, a ∙ e, refl)
row_more (q ∷ ps) x y m rest p (n, tail, j, w, more) e i = (n, tail, j, w, row_more ps tail y m rest p more e i)

lead_more : (ps : List Piece) (o s t : List Item) (p : Piece) → Lead o ps s → passed p s ≡ Ok t → Lead o (ps ++ p ∷ []) t
lead_more [] o s t p e h = (t, ap (passed p) e ∙ h, refl)
lead_more (q ∷ ps) o s t p (u, k, l) h = (u, k, lead_more ps u s t p l h)

-- the marks before y, which lead to a scope
abbrev pub Before : List ℕ → List ℕ → List Item → Type 0
Before x y scope = (ps : List Piece) × ArePieces ps x y × Lead [] ps scope

pub one_more : (x y : List ℕ) (n : ℕ) (s t : List Item) → Before x y s → Found y n
    → ((p : Piece) (m rest : List ℕ) → IsPiece p m rest → y ≡ m ++ rest → passed p s ≡ Ok t) → Before x (drop n y) t
one_more x y n s t (ps, a, l) (p, m, rest, i, w, size) all =
    let left : drop n y ≡ rest = ap (drop n) w ∙ drop_at m rest n (sym size) in
    (ps ++ p ∷ [], subst (ArePieces (ps ++ p ∷ []) x) (sym left) (row_more ps x y m rest p a w i), lead_more ps [] s t p l (all p m rest i w))

pub wrong_here : (y : List ℕ) (n : ℕ) (s : List Item) (c : SpaceCause) → Found y n
    → ((p : Piece) (m rest : List ℕ) → IsPiece p m rest → y ≡ m ++ rest → passed p s ≡ Err c) → IsFaulty s c y
wrong_here y n s c (p, m, rest, i, w, size) all = inr (p, m, rest, i, w, all p m rest i w)

pub nothing_here : MarksAreRead → (y : List ℕ) (s : List Item) → mark_len y ≡ None → IsFaulty s NoMark y
nothing_here marks y s e =
    inl (refl, λ p m rest i w. let wrong = sym e ∙ ap mark_len w ∙ marks m rest (piece_mark p m rest i) in absurd (cc))
