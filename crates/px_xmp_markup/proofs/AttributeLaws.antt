-- Attributes that are there once.
use Rattle.std.proofs.Common.{◌≡◌, ◌⊎◌, ℕ, Option, Some, None, option_map, MatchOption, List, [], ◌∷◌, ◌++◌, length, drop, take, refl, sym, ap, subst, ◌∙◌, inl, inr, arith, length-drop}
use Rattle.std.specs.List.{AllByRecursion}
use Rattle.std.proofs.lemmas.List.{drop_at, take_at}
use Rattle.px_xmp_marks.specs.Reading.{Named, Attr, attributes_of, Next, next_attribute, Start, start_tag}
use Rattle.px_xmp_marks.specs.Grammar.{IsStartTag}
use Rattle.px_xmp_marks.specs.Laws.{HasAttributes, AttributesInOrder, StartTagsAreRead, OnlyStartTagsAreRead}
use Rattle.px_xmp_marks.specs.Marks.{mark_len, text_len, IsMark, AreMarks, MarksAreRead, OnlyMarksAreRead}
use Rattle.px_xmp_markup.specs.declared.faults.AttributeCause.{AttributeCause}
use Rattle.px_xmp_markup.specs.declared.faults.AttributeCause.TheVariants.{NoMark, AttributeTwice}
use Rattle.px_xmp_markup.specs.Distinct.{IsAmong, AreDistinct, AreRepeated, HasDistinct, HasRepeated, IsDistinctRow}
use Rattle.px_xmp_markup.specs.AttributeFaults.{IsFaulty, IsAttributeFault}
use Rattle.px_xmp_markup.specs.Laws.{OneAttributeFault}
use Rattle.px_xmp_markup.specs.calls.Listed.{AreListed}

some_same : {A : Type 0} (p q : A) → Some p ≡ Some q → p ≡ q
some_same p q h = cc

-- ---- the attributes of a tag

-- n is the first attribute, and others follow it
abbrev Follows : Next → List Attr → Type 0
Follows n attributes = (more : List Attr) × (attributes ≡ n.attribute ∷ more)
    × (option_map (λ (r : List Attr × ℕ). r.0) (attributes_of n.rest) ≡ Some more)

-- the attributes of a tag are read one after another
pub attributes_listed : AttributesInOrder → (attributes : List Attr) (x : List ℕ) → option_map (λ (r : List Attr × ℕ). r.0) (attributes_of x) ≡ Some attributes
    → AreListed attributes x
attributes_listed law [] x h = by_next (next_attribute x) refl (law x [] h)
  where
    by_next : (q : Option Next) → next_attribute x ≡ q → MatchOption q (◌≡◌ {A = List Attr} [] []) (λ (n : Next). Follows n []) → next_attribute x ≡ None
    by_next None e m = e
    by_next (Some n) e (more, f, g) = absurd (cc)
attributes_listed law (a ∷ more) x h = by_next (next_attribute x) refl (law x (a ∷ more) h) (λ z g. attributes_listed law more z g)
  where
    by_next : (q : Option Next) → next_attribute x ≡ q
        → MatchOption q (a ∷ more ≡ []) (λ (n : Next). Follows n (a ∷ more))
        → ((z : List ℕ) → option_map (λ (r : List Attr × ℕ). r.0) (attributes_of z) ≡ Some more → AreListed more z)
        → AreListed (a ∷ more) x
    by_next None e m f = absurd (cc)
    by_next (Some n) e (others, g, h) f =
        let head : n.attribute ≡ a = cc in
        let tail : others ≡ more = cc in
        (n.rest, e ∙ ap (λ (b : Attr). Some (record { attribute = b; rest = n.rest })) head, f n.rest (h ∙ ap Some tail))

-- what was read of the attributes, of which none has the name n
pub record PastNames (n : Named) (y : List ℕ) (attributes : List Attr) : Type 0 where
  pub tail : List Attr
  pub left : AreListed tail y
  pub up : IsAmong n tail → IsAmong n attributes
  pub down : IsAmong n attributes → IsAmong n tail

-- what was read of the attributes, of which none is there again
pub record PastDistinct (y : List ℕ) (attributes : List Attr) : Type 0 where
  pub tail : List Attr
  pub left : AreListed tail y
  pub up : AreRepeated tail → AreRepeated attributes
  pub down : AreDistinct tail → AreDistinct attributes

-- the next attribute of a list
pub next_of : (tail : List Attr) (y : List ℕ) (n : Next) → AreListed tail y → next_attribute y ≡ Some n
    → (more : List Attr) × (tail ≡ n.attribute ∷ more) × AreListed more n.rest
next_of [] y n l e = let g = sym l ∙ e in absurd (cc)
next_of (a ∷ more) y n (rest, l, others) e =
    let same : record { attribute = a; rest = rest } ≡ n = some_same (record { attribute = a; rest = rest }) n (sym l ∙ e) in
    (more, ap (λ (z : Next). z.attribute ∷ more) same, subst (λ (z : Next). AreListed more z.rest) same others)

pub none_of : (tail : List Attr) (y : List ℕ) → AreListed tail y → next_attribute y ≡ None → tail ≡ []
none_of [] y l e = refl
none_of (a ∷ more) y (rest, l, others) e = let g = sym l ∙ e in absurd (cc)

pub next_name : (n : Named) (y : List ℕ) (attributes : List Attr) (a : Next) → PastNames n y attributes → next_attribute y ≡ Some a
    → (a.attribute.name ≡ n → ⊥) → PastNames n a.rest attributes
next_name n y attributes a p e other =
    let (more, same, left) = next_of p.tail y a p.left e in
    record {
      tail = more;
      left = left;
      up = λ h. p.up (subst (λ (z : List Attr). IsAmong n z) (sym same) (inr h));
      down = λ h. elim (subst (λ (z : List Attr). IsAmong n z) same (p.down h)) [ inl f ↦ absurd (other f) | inr g ↦ g ];
    }

pub this_name : (n : Named) (y : List ℕ) (attributes : List Attr) (a : Next) → PastNames n y attributes → next_attribute y ≡ Some a
    → a.attribute.name ≡ n → IsAmong n attributes
this_name n y attributes a p e f =
    let (more, same, left) = next_of p.tail y a p.left e in p.up (subst (λ (z : List Attr). IsAmong n z) (sym same) (inl f))

pub no_name : (n : Named) (y : List ℕ) (attributes : List Attr) → PastNames n y attributes → next_attribute y ≡ None
    → IsAmong n attributes → ⊥
no_name n y attributes p e h = subst (λ (z : List Attr). IsAmong n z) (none_of p.tail y p.left e) (p.down h)

pub next_distinct : (y : List ℕ) (attributes : List Attr) (a : Next) → PastDistinct y attributes → next_attribute y ≡ Some a
    → ((more : List Attr) → AreListed more a.rest → IsAmong a.attribute.name more → ⊥) → PastDistinct a.rest attributes
next_distinct y attributes a p e other =
    let (more, same, left) = next_of p.tail y a p.left e in
    record {
      tail = more;
      left = left;
      up = λ h. p.up (subst AreRepeated (sym same) (inr h));
      down = λ h. p.down (subst AreDistinct (sym same) (other more left, h));
    }

pub this_repeated : (y : List ℕ) (attributes : List Attr) (a : Next) → PastDistinct y attributes → next_attribute y ≡ Some a
    → ((more : List Attr) → AreListed more a.rest → IsAmong a.attribute.name more) → AreRepeated attributes
this_repeated y attributes a p e twice =
    let (more, same, left) = next_of p.tail y a p.left e in p.up (subst AreRepeated (sym same) (inl (twice more left)))

pub all_distinct : (y : List ℕ) (attributes : List Attr) → PastDistinct y attributes → next_attribute y ≡ None → AreDistinct attributes
all_distinct y attributes p e = p.down (subst AreDistinct (sym (none_of p.tail y p.left e)) tt)

not_both : (attributes : List Attr) → AreDistinct attributes → AreRepeated attributes → ⊥
not_both [] d r = r
not_both (a ∷ more) d (inl h) = d.0 h
not_both (a ∷ more) d (inr r) = not_both more d.1 r

-- ---- marks

same_mark : MarksAreRead → (m rest n tail : List ℕ) → IsMark m rest → IsMark n tail → m ++ rest ≡ n ++ tail → (m ≡ n) × (rest ≡ tail)
same_mark law m rest n tail i j e =
    let size : length m ≡ length n = some_same (length m) (length n) (sym (law m rest i) ∙ ap mark_len e ∙ law n tail j) in (
      sym (take_at m rest (length m) refl) ∙ ap (take (length m)) e ∙ take_at n tail (length m) (sym size),
      sym (drop_at m rest (length m) refl) ∙ ap (drop (length m)) e ∙ drop_at n tail (length m) (sym size),
    )

pub tag_distinct : StartTagsAreRead → (x : List ℕ) (t : Start) → start_tag x ≡ Some t
    → ((attributes : List Attr) → HasAttributes t attributes → AreDistinct attributes) → (m rest : List ℕ) → x ≡ m ++ rest → HasDistinct m
tag_distinct law x t e all m rest w n attributes empty i =
    let (u, g, named, has, is_empty, size) = law m rest n attributes empty i in
    let same : u ≡ t = some_same u t (sym g ∙ ap start_tag (sym w) ∙ e) in
    all attributes (subst (λ (z : Start). HasAttributes z attributes) same has)

pub no_tag_distinct : StartTagsAreRead → (x : List ℕ) → start_tag x ≡ None → (m rest : List ℕ) → x ≡ m ++ rest → HasDistinct m
no_tag_distinct law x e m rest w n attributes empty i =
    let (u, g, named, has, is_empty, size) = law m rest n attributes empty i in
    let wrong = sym e ∙ ap start_tag w ∙ g in absurd (cc)

pub tag_repeated : MarksAreRead → OnlyStartTagsAreRead → (x : List ℕ) (t : Start) → start_tag x ≡ Some t
    → ((attributes : List Attr) → HasAttributes t attributes → AreRepeated attributes)
    → (m rest : List ℕ) → IsMark m rest → x ≡ m ++ rest → HasRepeated m
tag_repeated law only x t e twice m rest i w =
    let (y, tail, attributes, whole, size, has, is) = only x t e in
    let same = same_mark law y tail m rest (inl (t.name, attributes, t.is_empty, is)) i (sym whole ∙ w) in
    subst HasRepeated same.0 (t.name, attributes, t.is_empty, is, twice attributes has)

-- ---- rows

abbrev pub AllDistinct : List (List ℕ) → Type 0
AllDistinct ms = AllByRecursion HasDistinct ms

-- a mark that has each attribute once is at the start
abbrev Goes : List ℕ → Type 0
Goes y = (m rest : List ℕ) × IsMark m rest × (y ≡ m ++ rest) × HasDistinct m

aligned : MarksAreRead → (ms ns : List (List ℕ)) (x y z : List ℕ) → AreMarks ms x y → AreMarks ns x z → AllDistinct ms → AllDistinct ns
    → (y ≡ z) ⊎ Goes y ⊎ Goes z
aligned law [] [] x y z p q a b = inl (sym p ∙ q)
aligned law [] (n ∷ ns) x y z p (rest, i, w, more) a b = inr (inl (n, rest, i, sym p ∙ w, b.0))
aligned law (m ∷ ms) [] x y z (rest, i, w, more) q a b = inr (inr (m, rest, i, sym q ∙ w, a.0))
aligned law (m ∷ ms) (n ∷ ns) x y z (rest, i, w, more) (tail, j, v, others) a b =
    let same = same_mark law m rest n tail i j (sym w ∙ v) in
    aligned law ms ns tail y z (subst (λ (u : List ℕ). AreMarks ms u y) same.1 more) others a.1 b.1

no_mark_len : mark_len [] ≡ None
unfolding mark_len text_len
no_mark_len = refl

nothing_goes : MarksAreRead → Goes [] → ⊥
nothing_goes law (m, rest, i, w, d) = let g = sym no_mark_len ∙ ap mark_len w ∙ law m rest i in absurd (cc)

fault_stops : MarksAreRead → (c : AttributeCause) (y : List ℕ) → IsFaulty c y → Goes y → ⊥
fault_stops law NoMark y f (m, rest, i, w, d) = f m rest i w
fault_stops law AttributeTwice y (n, tail, j, v, r) (m, rest, i, w, d) =
    let (name, attributes, empty, is, twice) = r in
    let same = same_mark law n tail m rest j i (sym v ∙ w) in
    not_both attributes (d name attributes empty (subst (λ (u : List ℕ). IsStartTag u name attributes empty) same.0 is)) twice

fault_once : (c d : AttributeCause) (y : List ℕ) → IsFaulty c y → IsFaulty d y → c ≡ d
fault_once NoMark NoMark y f g = refl
fault_once NoMark AttributeTwice y f g = absurd (f g.0 g.1 g.2 g.3)
fault_once AttributeTwice NoMark y f g = absurd (g f.0 f.1 f.2 f.3)
fault_once AttributeTwice AttributeTwice y f g = refl

no_row : MarksAreRead → (x : List ℕ) (c : AttributeCause) (n : ℕ) → IsAttributeFault x c n → IsDistinctRow x → ⊥
no_row law x c n h (ms, a, d) = elim (aligned law h.marks ms x (drop n x) [] h.before a h.distinct d) [
  | inl e ↦ let within = h.within in omega (arith, within, ap length e, length-drop n x)
  | inr s ↦ elim s [
    | inl g ↦ fault_stops law c (drop n x) h.wrong g
    | inr g ↦ nothing_goes law g
  ]
]

other_fault : MarksAreRead → (x : List ℕ) (c d : AttributeCause) (n m : ℕ) → IsAttributeFault x c n → IsAttributeFault x d m → (c ≡ d) × (n ≡ m)
other_fault law x c d n m h g = elim (aligned law h.marks g.marks x (drop n x) (drop m x) h.before g.before h.distinct g.distinct) [
  | inl e ↦
      let v = h.within in
      let w = g.within in (
        fault_once c d (drop m x) (subst (IsFaulty c) e h.wrong) g.wrong,
        omega (arith, v, w, ap length e, length-drop n x, length-drop m x),
      )
  | inr s ↦ elim s [
    | inl t ↦ absurd (fault_stops law c (drop n x) h.wrong t)
    | inr t ↦ absurd (fault_stops law d (drop m x) g.wrong t)
  ]
]

pub one_attribute_fault : MarksAreRead → OneAttributeFault
one_attribute_fault law x c n h = (no_row law x c n h, λ d m g. other_fault law x c d n m h g)

-- ---- the next mark

row_more : (ms : List (List ℕ)) (x y m rest : List ℕ) → AreMarks ms x y → y ≡ m ++ rest → IsMark m rest → AreMarks (ms ++ m ∷ []) x rest
row_more [] x y m rest p e i = (rest, i, p ∙ e, refl)
row_more (n ∷ ms) x y m rest (tail, j, w, more) e i = (tail, j, w, row_more ms tail y m rest more e i)

distinct_more : (ms : List (List ℕ)) (m : List ℕ) → AllDistinct ms → HasDistinct m → AllDistinct (ms ++ m ∷ [])
distinct_more [] m a d = (d, tt)
distinct_more (n ∷ ms) m a d = (a.0, distinct_more ms m a.1 d)

-- the marks before y
abbrev pub Before : List ℕ → List ℕ → Type 0
Before x y = (ms : List (List ℕ)) × AreMarks ms x y × AllDistinct ms

pub one_more : OnlyMarksAreRead → (x y : List ℕ) (n : ℕ) → Before x y → mark_len y ≡ Some n
    → ((m rest : List ℕ) → IsMark m rest → y ≡ m ++ rest → HasDistinct m) → Before x (drop n y)
one_more law x y n (ms, a, d) e all =
    let (m, rest, w, size, i) = law y n e in
    let left : drop n y ≡ rest = ap (drop n) w ∙ drop_at m rest n (sym size) in
    (ms ++ m ∷ [], subst (AreMarks (ms ++ m ∷ []) x) (sym left) (row_more ms x y m rest a w i), distinct_more ms m d (all m rest i w))

pub twice_here : OnlyMarksAreRead → (y : List ℕ) (n : ℕ) → mark_len y ≡ Some n
    → ((m rest : List ℕ) → IsMark m rest → y ≡ m ++ rest → HasRepeated m) → IsFaulty AttributeTwice y
twice_here law y n e twice = let (m, rest, w, size, i) = law y n e in (m, rest, i, w, twice m rest i w)

pub nothing_here : MarksAreRead → (y : List ℕ) → mark_len y ≡ None → IsFaulty NoMark y
nothing_here law y e m rest i w = let g = sym e ∙ ap mark_len w ∙ law m rest i in absurd (cc)
