-- The kinds of marks: what is read is one, and each is read.
use Rattle.std.proofs.Common.{◌≡◌, ◌≤◌, ◌==◌, ◌&&◌, not, ℕ, Bool, true, false, cond, nat_eq, codes, List, [], ◌∷◌, ◌++◌, length, take}
use Rattle.std.proofs.Common.{Option, Some, None, option_map, refl, sym, ap, subst, ◌∙◌, inl, inr, arith, eq-eqb}
use Rattle.std.proofs.lemmas.List.{take_at}
use Rattle.std.proofs.lemmas.Bool.{cases_Bool, cond-false, ne_eqb}
use Rattle.std.specs.List.{AllByRecursion, starts_with}
use Rattle.px_xmp_marks.specs.Reading.{is_space, Named, Attr, ncname, name, Start, start_tag, End, end_tag}
use Rattle.px_xmp_marks.specs.Grammar.{AreSpaces, IsStartTag, IsEndTag}
use Rattle.px_xmp_marks.specs.Laws.{StartTagsAreRead, OnlyStartTagsAreRead, EndTagsAreRead, OnlyEndTagsAreRead}
use Rattle.px_xmp_marks.specs.Declarations.{every}
use Rattle.px_xmp_marks.specs.Sections.{IsSection}
use Rattle.px_xmp_marks.specs.Comments.{IsComment}
use Rattle.px_xmp_marks.specs.Instructions.{IsInstruction}
use Rattle.px_xmp_marks.specs.Marks.{mark_len, IsText, IsMark, MarksAreRead, OnlyMarksAreRead}
use Rattle.px_xmp_markup.specs.Kinds.{Kind, Opening, Closing, Alone, Misc, Data, Marked, start_kind, from_start, from_end, other_kind, from_other, or_mark, mark, IsKind, KindsAreRead, OnlyKindsAreRead}

-- ---- no tag

no_start_47 : (z : List ℕ) → start_tag (60 ∷ 47 ∷ z) ≡ None
unfolding start_tag name ncname
no_start_47 z = refl

no_start_33 : (z : List ℕ) → start_tag (60 ∷ 33 ∷ z) ≡ None
unfolding start_tag name ncname
no_start_33 z = refl

no_start_63 : (z : List ℕ) → start_tag (60 ∷ 63 ∷ z) ≡ None
unfolding start_tag name ncname
no_start_63 z = refl

no_end_33 : (z : List ℕ) → end_tag (60 ∷ 33 ∷ z) ≡ None
unfolding end_tag
no_end_33 z = refl

no_end_63 : (z : List ℕ) → end_tag (60 ∷ 63 ∷ z) ≡ None
unfolding end_tag
no_end_63 z = refl

-- neither the start tag nor the end tag of an element is at the start
abbrev NoTag : List ℕ → Type 0
NoTag x = (start_tag x ≡ None) × (end_tag x ≡ None)

-- octets that do not begin with `<`
data_starts : (o : ℕ) (z w : List ℕ) → (o == 60) ≡ false → starts_with nat_eq (o ∷ z) (60 ∷ w) ≡ false
data_starts o z w h = ap (λ (b : Bool). b && starts_with nat_eq z w) (ne_eqb 60 o (λ e. let t : true ≡ false = sym (eq-eqb o 60 (sym e)) ∙ h in absurd (cc)))

no_start_data : (o : ℕ) (z : List ℕ) → (o == 60) ≡ false → start_tag (o ∷ z) ≡ None
unfolding start_tag
no_start_data o z h = cond-false (o == 60) _ None h

no_end_data : (o : ℕ) (z : List ℕ) → (o == 60) ≡ false → end_tag (o ∷ z) ≡ None
unfolding end_tag
no_end_data o z h = cond-false (starts_with nat_eq (o ∷ z) (codes "</")) _ None (data_starts o z (47 ∷ []) h)

abbrev other_mark : List ℕ → Option Marked
other_mark x = option_map (from_other x) (mark_len x)

mark_other : (x : List ℕ) → NoTag x → mark x ≡ other_mark x
unfolding mark
mark_other x h =
    ap (λ (q : Option Start). or_mark (option_map from_start q) (or_mark (option_map from_end (end_tag x)) (other_mark x))) h.0
    ∙ ap (λ (q : Option End). or_mark (option_map from_end q) (other_mark x)) h.1

abbrev marked : Kind → ℕ → Marked
marked k n = record { kind = k; size = n }

-- ---- the kinds of marks that are no tags

all_pass : (x : List ℕ) → AreSpaces x → every is_space x ≡ true
all_pass [] h = refl
all_pass (o ∷ x) h = ap (λ (b : Bool). b && every is_space x) h.0 ∙ all_pass x h.1

and_both : (a b : Bool) → (a && b) ≡ true → (a ≡ true) × (b ≡ true)
and_both true b h = (refl, h)
and_both false b h = absurd (cc)

each_passes : (x : List ℕ) → every is_space x ≡ true → AreSpaces x
each_passes [] h = tt
each_passes (o ∷ x) h = let b = and_both (is_space o) (every is_space x) h in (b.0, each_passes x b.1)

comment_begins : (x rest content : List ℕ) → IsComment x content → NoTag (x ++ rest) × ((n : ℕ) → other_kind (x ++ rest) n ≡ Misc)
comment_begins x rest content i =
    let z = codes "--" ++ ((content ++ codes "-->") ++ rest) in
    let e : x ++ rest ≡ 60 ∷ 33 ∷ z = ap (λ (u : List ℕ). u ++ rest) i.1 in
    ((ap start_tag e ∙ no_start_33 z, ap end_tag e ∙ no_end_33 z), λ n. ap (λ (u : List ℕ). other_kind u n) e)

section_begins : (x rest content : List ℕ) → IsSection x content → NoTag (x ++ rest) × ((n : ℕ) → other_kind (x ++ rest) n ≡ Data)
section_begins x rest content i =
    let z = codes "[CDATA[" ++ ((content ++ codes "]]>") ++ rest) in
    let e : x ++ rest ≡ 60 ∷ 33 ∷ z = ap (λ (u : List ℕ). u ++ rest) i.1 in
    ((ap start_tag e ∙ no_start_33 z, ap end_tag e ∙ no_end_33 z), λ n. ap (λ (u : List ℕ). other_kind u n) e)

instruction_begins : (x rest : List ℕ) → IsInstruction x → NoTag (x ++ rest) × ((n : ℕ) → other_kind (x ++ rest) n ≡ Misc)
instruction_begins x rest i =
    let z = (i.target ++ (i.space ++ (i.content ++ codes "?>"))) ++ rest in
    let e : x ++ rest ≡ 60 ∷ 63 ∷ z = ap (λ (u : List ℕ). u ++ rest) i.whole in
    ((ap start_tag e ∙ no_start_63 z, ap end_tag e ∙ no_end_63 z), λ n. ap (λ (u : List ℕ). other_kind u n) e)

data_is : (o : ℕ) → not (o == 60) ≡ true → (o == 60) ≡ false
data_is o h = elim (cases_Bool (o == 60)) [
  | inr f ↦ f
  | inl t ↦ let e : false ≡ true = sym (ap not t) ∙ h in absurd (cc)
]

abbrev text_kind : Bool → Kind
text_kind b = cond b Misc Data

text_begins : (x rest : List ℕ) → IsText x → NoTag (x ++ rest) × (other_kind (x ++ rest) (length x) ≡ text_kind (every is_space x))
text_begins x rest i = by_first x i.some i.inside
  where
    by_first : (x : List ℕ) → 1 ≤ length x → AllByRecursion (λ o. not (o == 60) ≡ true) x
        → NoTag (x ++ rest) × (other_kind (x ++ rest) (length x) ≡ text_kind (every is_space x))
    by_first [] l p = absurd (omega (arith, l))
    by_first (o ∷ x) l p =
        let h = data_is o p.0 in
        let z = x ++ rest in
        let n = length (o ∷ x) in
        let left = text_kind (every is_space (take n (o ∷ z))) in (
          (no_start_data o z h, no_end_data o z h),
          cond-false (starts_with nat_eq (o ∷ z) (codes "<![")) Data (cond (starts_with nat_eq (o ∷ z) (codes "<")) Misc left) (data_starts o z (33 ∷ 91 ∷ []) h)
              ∙ cond-false (starts_with nat_eq (o ∷ z) (codes "<")) Misc left (data_starts o z [] h)
              ∙ ap (λ (u : List ℕ). text_kind (every is_space u)) (take_at (o ∷ x) rest n refl),
        )

-- ---- each is read

kind_mark : (k : Kind) (x y : List ℕ) → IsKind k x y → IsMark x y
kind_mark (Opening n) x y (a, i) = inl (n, a, false, i)
kind_mark (Closing n) x y i = inr (inl (n, i))
kind_mark (Alone n) x y (a, i) = inl (n, a, true, i)
kind_mark Misc x y (inl i) = inr (inr (inl i))
kind_mark Misc x y (inr (inl i)) = inr (inr (inr (inr (inl i))))
kind_mark Misc x y (inr (inr (i, s, e))) = inr (inr (inr (inr (inr (i, e)))))
kind_mark Data x y (inl i) = inr (inr (inr (inl i)))
kind_mark Data x y (inr (i, s, e)) = inr (inr (inr (inr (inr (i, e)))))

start_reads : StartTagsAreRead → (x rest : List ℕ) (n : Named) (a : List Attr) (b : Bool) → IsStartTag x n a b
    → mark (x ++ rest) ≡ Some (marked (start_kind b n) (length x))
unfolding mark
start_reads law x rest n a b i =
    let (t, e, named, attributes, empty, size) = law x rest n a b i in
    ap (λ (q : Option Start). or_mark (option_map from_start q) (or_mark (option_map from_end (end_tag (x ++ rest))) (other_mark (x ++ rest)))) e
    ∙ ap (λ (z : Named). Some (marked (start_kind t.is_empty z) t.size)) named
    ∙ ap (λ (z : Bool). Some (marked (start_kind z n) t.size)) empty ∙ ap (λ (z : ℕ). Some (marked (start_kind b n) z)) size

end_reads : EndTagsAreRead → (x rest : List ℕ) (n : Named) → IsEndTag x n → mark (x ++ rest) ≡ Some (marked (Closing n) (length x))
unfolding mark
end_reads law x rest n i =
    let (y, s, h, p, w) = i in
    let none : start_tag (x ++ rest) ≡ None = ap (λ (u : List ℕ). start_tag (u ++ rest)) w ∙ no_start_47 ((y ++ (s ++ 62 ∷ [])) ++ rest) in
    ap (λ (q : Option Start). or_mark (option_map from_start q) (or_mark (option_map from_end (end_tag (x ++ rest))) (other_mark (x ++ rest)))) none
    ∙ ap (λ (q : Option End). or_mark (option_map from_end q) (other_mark (x ++ rest))) (law x rest n i)

other_reads : MarksAreRead → (k : Kind) (x rest : List ℕ) → IsKind k x rest → NoTag (x ++ rest) → other_kind (x ++ rest) (length x) ≡ k
    → mark (x ++ rest) ≡ Some (marked k (length x))
other_reads law k x rest i none e =
    mark_other (x ++ rest) none ∙ ap (option_map (from_other (x ++ rest))) (law x rest (kind_mark k x rest i))
    ∙ ap (λ (z : Kind). Some (marked z (length x))) e

pub kinds_are_read : StartTagsAreRead → EndTagsAreRead → MarksAreRead → KindsAreRead
kinds_are_read s t m (Opening n) x rest (a, i) = start_reads s x rest n a false i
kinds_are_read s t m (Closing n) x rest i = end_reads t x rest n i
kinds_are_read s t m (Alone n) x rest (a, i) = start_reads s x rest n a true i
kinds_are_read s t m Misc x rest (inl (c, i)) =
    let b = comment_begins x rest c i in other_reads m Misc x rest (inl (c, i)) b.0 (b.1 (length x))
kinds_are_read s t m Misc x rest (inr (inl i)) =
    let b = instruction_begins x rest i in other_reads m Misc x rest (inr (inl i)) b.0 (b.1 (length x))
kinds_are_read s t m Misc x rest (inr (inr (i, p, e))) =
    let b = text_begins x rest i in other_reads m Misc x rest (inr (inr (i, p, e))) b.0 (b.1 ∙ ap text_kind (all_pass x p))
kinds_are_read s t m Data x rest (inl (c, i)) =
    let b = section_begins x rest c i in other_reads m Data x rest (inl (c, i)) b.0 (b.1 (length x))
kinds_are_read s t m Data x rest (inr (i, p, e)) =
    let b = text_begins x rest i in
    let no : every is_space x ≡ false = elim (cases_Bool (every is_space x)) [ inl t ↦ absurd (p (each_passes x t)) | inr f ↦ f ] in
    other_reads m Data x rest (inr (i, p, e)) b.0 (b.1 ∙ ap text_kind no)

-- ---- what is read is one

abbrev FoundKind : List ℕ → Marked → Type 0
FoundKind x m = (y rest : List ℕ) × (x ≡ y ++ rest) × (m.size ≡ length y) × IsKind m.kind y rest

start_is : (b : Bool) (n : Named) (a : List Attr) (y rest : List ℕ) → IsStartTag y n a b → IsKind (start_kind b n) y rest
start_is true n a y rest i = (a, i)
start_is false n a y rest i = (a, i)

other_is : (y rest : List ℕ) → StartTagsAreRead → EndTagsAreRead → NoTag (y ++ rest) → IsMark y rest
    → IsKind (other_kind (y ++ rest) (length y)) y rest
other_is y rest s t none (inl (n, a, b, i)) = let (u, e, named, attributes, empty, size) = s y rest n a b i in let g = sym none.0 ∙ e in absurd (cc)
other_is y rest s t none (inr (inl (n, i))) = let g = sym none.1 ∙ t y rest n i in absurd (cc)
other_is y rest s t none (inr (inr (inl (c, i)))) =
    subst (λ (k : Kind). IsKind k y rest) (sym ((comment_begins y rest c i).1 (length y))) (inl (c, i))
other_is y rest s t none (inr (inr (inr (inl (c, i))))) =
    subst (λ (k : Kind). IsKind k y rest) (sym ((section_begins y rest c i).1 (length y))) (inl (c, i))
other_is y rest s t none (inr (inr (inr (inr (inl i))))) =
    subst (λ (k : Kind). IsKind k y rest) (sym ((instruction_begins y rest i).1 (length y))) (inr (inl i))
other_is y rest s t none (inr (inr (inr (inr (inr (i, e)))))) =
    let b = text_begins y rest i in elim (cases_Bool (every is_space y)) [
      | inl u ↦ subst (λ (k : Kind). IsKind k y rest) (sym (b.1 ∙ ap text_kind u)) (inr (inr (i, each_passes y u, e)))
      | inr f ↦
          subst (λ (k : Kind). IsKind k y rest) (sym (b.1 ∙ ap text_kind f))
          (inr (i, (λ p. let g = sym (all_pass y p) ∙ f in absurd (cc)), e))
    ]

some_same : {A : Type 0} (p q : A) → Some p ≡ Some q → p ≡ q
some_same p q h = cc

pub only_kinds_are_read : StartTagsAreRead → EndTagsAreRead → OnlyStartTagsAreRead → OnlyEndTagsAreRead → OnlyMarksAreRead → OnlyKindsAreRead
unfolding mark
only_kinds_are_read s t starts ends all_marks x m h = by_start (start_tag x) refl
  where
    by_len : NoTag x → (q : Option ℕ) → mark_len x ≡ q → FoundKind x m
    by_len none None e = let g = sym (mark_other x none ∙ ap (option_map (from_other x)) e) ∙ h in absurd (cc)
    by_len none (Some n) e =
        let same : from_other x n ≡ m = some_same (from_other x n) m (sym (mark_other x none ∙ ap (option_map (from_other x)) e) ∙ h) in
        let (y, rest, whole, size, is) = all_marks x n e in
        let kind : IsKind (other_kind x n) y rest =
        subst (λ (u : List ℕ). IsKind (other_kind u n) y rest) (sym whole) (subst (λ (k : ℕ). IsKind (other_kind (y ++ rest) k) y rest) (sym size)
        (other_is y rest s t (subst NoTag whole none) is)) in
        subst (FoundKind x) same (y, rest, whole, size, kind)

    by_end : start_tag x ≡ None → (q : Option End) → end_tag x ≡ q → FoundKind x m
    by_end none None e = by_len (none, e) (mark_len x) refl
    by_end none (Some u) e =
        let all : mark x ≡ Some (from_end u) =
        ap (λ (q : Option Start). or_mark (option_map from_start q) (or_mark (option_map from_end (end_tag x)) (other_mark x))) none
        ∙ ap (λ (q : Option End). or_mark (option_map from_end q) (other_mark x)) e in
        let same : from_end u ≡ m = some_same (from_end u) m (sym all ∙ h) in
        let (y, rest, whole, size, is) = ends x u e in
        subst (FoundKind x) same (y, rest, whole, size, is)

    by_start : (q : Option Start) → start_tag x ≡ q → FoundKind x m
    by_start None e = by_end e (end_tag x) refl
    by_start (Some u) e =
        let all : mark x ≡ Some (from_start u) =
        ap (λ (q : Option Start). or_mark (option_map from_start q) (or_mark (option_map from_end (end_tag x)) (other_mark x))) e in
        let same : from_start u ≡ m = some_same (from_start u) m (sym all ∙ h) in
        let (y, rest, attributes, whole, size, has, is) = starts x u e in
        subst (FoundKind x) same (y, rest, whole, size, start_is u.is_empty u.name attributes y rest is)
