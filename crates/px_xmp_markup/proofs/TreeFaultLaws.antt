-- The first fault: octets with one are no tree, and have no other.
use Rattle.std.proofs.Common.{◌≡◌, ◌≢◌, ◌≤◌, ◌⊎◌, ℕ, List, [], ◌∷◌, ◌++◌, length, drop, Some, refl, sym, ap, subst, ◌∙◌, inl, inr, arith, length-append, length-drop}
use Rattle.std.proofs.lemmas.List.{drop_at}
use Rattle.px_xmp_markup.specs.declared.faults.TreeCause.{TreeCause}
use Rattle.px_xmp_markup.specs.Kinds.{Kind, Opening, Closing, Alone, Misc, Data, Marked, mark, IsKind, AreKinds, Begins, KindsAreRead, OnlyKindsAreRead}
use Rattle.px_xmp_markup.specs.Nesting.{Place, Among, After, LeadTo, IsTree}
use Rattle.px_xmp_markup.specs.TreeFaults.{IsWrong, IsCut, IsFaulty, IsTreeFault}
use Rattle.px_xmp_markup.specs.Laws.{OneTreeFault}
use Rattle.px_xmp_markup.specs.calls.Steps.{Step}
use Rattle.px_xmp_markup.proofs.NestingLaws.{Reach, lead_reaches, step_leads, step_once}

-- no mark is empty
kind_some : (k : Kind) (m rest : List ℕ) → IsKind k m rest → 1 ≤ length m
kind_some (Opening n) m rest (a, i) = let (y, z, h, k, w) = i in omega (arith, ap length w)
kind_some (Closing n) m rest i = let (y, s, h, k, w) = i in omega (arith, ap length w)
kind_some (Alone n) m rest (a, i) = let (y, z, h, k, w) = i in omega (arith, ap length w)
kind_some Misc m rest (inl (c, i)) = omega (arith, ap length i.1)
kind_some Misc m rest (inr (inl i)) = omega (arith, ap length i.whole)
kind_some Misc m rest (inr (inr (i, s, e))) = i.some
kind_some Data m rest (inl (c, i)) = omega (arith, ap length i.1)
kind_some Data m rest (inr (i, s, e)) = i.some

begins_some : (k : Kind) (y : List ℕ) → Begins k y → y ≢ []
begins_some k y (m, rest, i, w) e =
    let some = kind_some k m rest i in absurd (omega (arith, some, ap length (sym e ∙ w), length-append m rest))

marked_same : (p q : Marked) → Some p ≡ Some q → (p.kind ≡ q.kind) × (p.size ≡ q.size)
marked_same p q h = let e : p ≡ q = cc in (ap (λ (u : Marked). u.kind) e, ap (λ (u : Marked). u.size) e)

-- the mark at the start is one
same_mark : KindsAreRead → (k l : Kind) (m rest n tail : List ℕ) → IsKind k m rest → IsKind l n tail → m ++ rest ≡ n ++ tail
    → (k ≡ l) × (rest ≡ tail)
same_mark law k l m rest n tail i j e =
    let p : Marked = record { kind = k; size = length m } in
    let q : Marked = record { kind = l; size = length n } in
    let same = marked_same p q (sym (law k m rest i) ∙ ap mark e ∙ law l n tail j) in
    (same.0, sym (drop_at m rest (length m) refl) ∙ ap (drop (length m)) e ∙ drop_at n tail (length m) (sym same.1))

-- a mark is at the start of y, and leads on from the place p
abbrev Goes : List ℕ → Place → Type 0
Goes y p = (k : Kind) × (r : Place) × Begins k y × Step k p r

-- two rows of the same octets end at the same place, or one of them goes on where the other ends
aligned : KindsAreRead → (ks ls : List Kind) (x y z : List ℕ) (o p q : Place) → AreKinds ks x y → AreKinds ls x z → Reach o ks p → Reach o ls q
    → ((y ≡ z) × (p ≡ q)) ⊎ Goes y p ⊎ Goes z q
aligned law [] [] x y z o p q e f a b = inl (sym e ∙ f, sym a ∙ b)
aligned law [] (l ∷ ls) x y z o p q e (m, rest, i, w, more) a (r, s, b) =
    inr (inl (l, r, (m, rest, i, sym e ∙ w), subst (λ (u : Place). Step l u r) a s))
aligned law (k ∷ ks) [] x y z o p q (m, rest, i, w, more) f (r, s, a) b =
    inr (inr (k, r, (m, rest, i, sym f ∙ w), subst (λ (u : Place). Step k u r) b s))
aligned law (k ∷ ks) (l ∷ ls) x y z o p q (m, rest, i, w, more) (n, tail, j, v, others) (r, s, a) (t, u, b) =
    let same = same_mark law k l m rest n tail i j (sym w ∙ v) in
    let place : r ≡ t = step_once l o r t (subst (λ (c : Kind). Step c o r) same.0 s) u in
    aligned law ks ls tail y z t p q (subst (λ (c : List ℕ). AreKinds ks c y) same.1 more) others (subst (λ (c : Place). Reach c ks p) place a) b

-- ---- a fault is where no mark leads on

wrong_stops : (k : Kind) (p r : Place) (c : TreeCause) → IsWrong k p c → Step k p r → ⊥
wrong_stops (Opening n) (Among names) r c w s = omega (arith, w.0, s.0)
wrong_stops (Opening n) After r c w s = s
wrong_stops (Closing n) (Among []) r c w s = s
wrong_stops (Closing n) (Among (m ∷ outer)) r c w s = w.0 s.0
wrong_stops (Closing n) After r c w s = s
wrong_stops (Alone n) (Among names) r c w s = omega (arith, w.0, s.0)
wrong_stops (Alone n) After r c w s = s
wrong_stops Misc p r c w s = w
wrong_stops Data (Among []) r c w s = s
wrong_stops Data (Among (m ∷ outer)) r c w s = w
wrong_stops Data After r c w s = s

same_kind : KindsAreRead → (k l : Kind) (y : List ℕ) → Begins k y → Begins l y → k ≡ l
same_kind law k l y (m, rest, i, w) (n, tail, j, v) = (same_mark law k l m rest n tail i j (sym w ∙ v)).0

fault_stops : KindsAreRead → (p : Place) (y : List ℕ) (c : TreeCause) → IsFaulty p y c → Goes y p → ⊥
fault_stops law p y c (inl (e, cut)) (k, r, b, s) = begins_some k y b e
fault_stops law p y c (inr (inl (l, a, w))) (k, r, b, s) =
    wrong_stops k p r c (subst (λ (u : Kind). IsWrong u p c) (same_kind law l k y a b) w) s
fault_stops law p y c (inr (inr (some, none, e))) (k, r, b, s) = none k b

-- ---- a fault has one cause

cut_once : (p : Place) (c d : TreeCause) → IsCut p c → IsCut p d → c ≡ d
cut_once (Among []) c d a b = a ∙ sym b
cut_once (Among (m ∷ outer)) c d a b = a ∙ sym b
cut_once After c d a b = absurd a

wrong_once : (k : Kind) (p : Place) (c d : TreeCause) → IsWrong k p c → IsWrong k p d → c ≡ d
wrong_once (Opening n) (Among names) c d a b = a.1 ∙ sym b.1
wrong_once (Opening n) After c d a b = a ∙ sym b
wrong_once (Closing n) (Among []) c d a b = a ∙ sym b
wrong_once (Closing n) (Among (m ∷ outer)) c d a b = a.1 ∙ sym b.1
wrong_once (Closing n) After c d a b = a ∙ sym b
wrong_once (Alone n) (Among names) c d a b = a.1 ∙ sym b.1
wrong_once (Alone n) After c d a b = a ∙ sym b
wrong_once Misc p c d a b = absurd a
wrong_once Data (Among []) c d a b = a ∙ sym b
wrong_once Data (Among (m ∷ outer)) c d a b = absurd a
wrong_once Data After c d a b = a ∙ sym b

fault_once : KindsAreRead → (p : Place) (y : List ℕ) (c d : TreeCause) → IsFaulty p y c → IsFaulty p y d → c ≡ d
fault_once law p y c d (inl (e, a)) (inl (f, b)) = cut_once p c d a b
fault_once law p y c d (inl (e, a)) (inr (inl (k, b, w))) = absurd (begins_some k y b e)
fault_once law p y c d (inl (e, a)) (inr (inr (some, none, f))) = absurd (some e)
fault_once law p y c d (inr (inl (k, b, w))) (inl (e, a)) = absurd (begins_some k y b e)
fault_once law p y c d (inr (inl (k, a, w))) (inr (inl (l, b, v))) =
    wrong_once l p c d (subst (λ (u : Kind). IsWrong u p c) (same_kind law k l y a b) w) v
fault_once law p y c d (inr (inl (k, b, w))) (inr (inr (some, none, f))) = absurd (none k b)
fault_once law p y c d (inr (inr (some, none, f))) (inl (e, a)) = absurd (some e)
fault_once law p y c d (inr (inr (some, none, f))) (inr (inl (k, b, w))) = absurd (none k b)
fault_once law p y c d (inr (inr (some, none, f))) (inr (inr (others, nothing, g))) = f ∙ sym g

-- ---- the law

no_fault : (c : TreeCause) → IsFaulty After [] c → ⊥
no_fault c (inl (e, a)) = a
no_fault c (inr (inl (k, b, w))) = begins_some k [] b refl
no_fault c (inr (inr (some, none, f))) = some refl

no_tree : KindsAreRead → (x : List ℕ) (c : TreeCause) (n : ℕ) → IsTreeFault x c n → IsTree x → ⊥
no_tree law x c n h (ks, a, r) = elim (aligned law h.before ks x (drop n x) [] (Among []) h.place After h.marked a (lead_reaches h.place h.before h.leads) (lead_reaches After ks r)) [
  | inl e ↦ no_fault c (subst (λ (p : Place). IsFaulty p [] c) e.1 (subst (λ (y : List ℕ). IsFaulty h.place y c) e.0 h.wrong))
  | inr s ↦ elim s [
    | inl g ↦ fault_stops law h.place (drop n x) c h.wrong g
    | inr g ↦ let (k, q, b, t) = g in begins_some k [] b refl
  ]
]

other_fault : KindsAreRead → (x : List ℕ) (c d : TreeCause) (n m : ℕ) → IsTreeFault x c n → IsTreeFault x d m → (c ≡ d) × (n ≡ m)
other_fault law x c d n m h g = elim (aligned law h.before g.before x (drop n x) (drop m x) (Among []) h.place g.place h.marked g.marked (lead_reaches h.place h.before h.leads) (lead_reaches g.place g.before g.leads)) [
  | inl e ↦
      let v = h.within in
      let w = g.within in (
        fault_once law g.place (drop m x) c d (subst (λ (p : Place). IsFaulty p (drop m x) c) e.1 (subst (λ (y : List ℕ). IsFaulty h.place y c) e.0 h.wrong)) g.wrong,
        omega (arith, v, w, ap length e.0, length-drop n x, length-drop m x),
      )
  | inr s ↦ elim s [
    | inl t ↦ absurd (fault_stops law h.place (drop n x) c h.wrong t)
    | inr t ↦ absurd (fault_stops law g.place (drop m x) d g.wrong t)
  ]
]

pub one_tree_fault : KindsAreRead → OneTreeFault
one_tree_fault law x c n h = (no_tree law x c n h, λ d m g. other_fault law x c d n m h g)

-- ---- the next mark

row_more : (ks : List Kind) (x y : List ℕ) (k : Kind) (m rest : List ℕ) → AreKinds ks x y → y ≡ m ++ rest → IsKind k m rest
    → AreKinds (ks ++ k ∷ []) x rest
row_more [] x y k m rest p e i = (m, rest, i, p ∙ e, refl)
row_more (l ∷ ks) x y k m rest (n, tail, j, w, more) e i = (n, tail, j, w, row_more ks tail y k m rest more e i)

-- the marks before y, which lead to the place p
abbrev pub Before : List ℕ → List ℕ → Place → Type 0
Before x y p = (ks : List Kind) × AreKinds ks x y × LeadTo p ks

pub one_more : OnlyKindsAreRead → (x y : List ℕ) (p q : Place) (m : Marked) → Before x y p → mark y ≡ Some m → Step m.kind p q
    → Before x (drop m.size y) q
one_more law x y p q m (ks, a, l) e s =
    let (n, rest, w, size, i) = law y m e in
    let left : drop m.size y ≡ rest = ap (drop m.size) w ∙ drop_at n rest m.size (sym size) in
    (ks ++ m.kind ∷ [], subst (AreKinds (ks ++ m.kind ∷ []) x) (sym left) (row_more ks x y m.kind n rest a w i), step_leads m.kind p q ks l s)

-- what is read here begins here
pub read_begins : OnlyKindsAreRead → (y : List ℕ) (m : Marked) → mark y ≡ Some m → Begins m.kind y
read_begins law y m e = let (n, rest, w, size, i) = law y m e in (n, rest, i, w)
