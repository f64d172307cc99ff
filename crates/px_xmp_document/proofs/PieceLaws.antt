-- A mark is one piece.
use Rattle.std.proofs.Common.{◌≡◌, ℕ, Bool, true, false, Option, Some, None, option_map, Ok, List, [], ◌∷◌, ◌++◌, length, take, drop, refl, sym, ap, subst, ◌∙◌, inl, inr}
use Rattle.std.proofs.lemmas.List.{drop_at, take_at}
use Rattle.px_xmp_marks.specs.Reading.{Named, Attr, ncname, name, attributes_of, Start, start_tag, End, end_tag}
use Rattle.px_xmp_marks.specs.Grammar.{IsStartTag, IsEndTag}
use Rattle.px_xmp_marks.specs.Laws.{StartTagsAreRead, OnlyStartTagsAreRead, EndTagsAreRead, OnlyEndTagsAreRead}
use Rattle.px_xmp_marks.specs.Marks.{mark_len, IsMark, MarksAreRead, OnlyMarksAreRead}
use Rattle.px_xmp_document.specs.Pieces.{Piece, Opening, Alone, Closing, Other, IsPiece}
use Rattle.px_xmp_document.specs.Scopes.{Item}
use Rattle.px_xmp_document.specs.Tags.{passed}
use Rattle.px_xmp_document.specs.calls.Passing.{AreListed, start_piece, passed_other, Gives}

pub some_same : {A : Type 0} (p q : A) → Some p ≡ Some q → p ≡ q
some_same p q h = cc

no_start_47 : (z : List ℕ) → start_tag (60 ∷ 47 ∷ z) ≡ None
unfolding start_tag name ncname
no_start_47 z = refl

no_start_end : (x rest : List ℕ) (n : Named) → IsEndTag x n → start_tag (x ++ rest) ≡ None
no_start_end x rest n (y, s, h, k, w) = ap (λ (u : List ℕ). start_tag (u ++ rest)) w ∙ no_start_47 ((y ++ (s ++ 62 ∷ [])) ++ rest)

pub not_both : StartTagsAreRead → (x : List ℕ) (n k : Named) (attributes : List Attr) (b : Bool) → IsStartTag x n attributes b → IsEndTag x k → ⊥
not_both law x n k attributes b i j =
    let (t, e, named, has, empty, size) = law x [] n attributes b i in
    let wrong = sym (no_start_end x [] k j) ∙ e in absurd (cc)

start_once : StartTagsAreRead → (x : List ℕ) (n k : Named) (xs ys : List Attr) (a b : Bool) → IsStartTag x n xs a → IsStartTag x k ys b
    → (n ≡ k) × (xs ≡ ys) × (a ≡ b)
start_once law x n k xs ys a b i j =
    let (t, e, named, has, empty, size) = law x [] n xs a i in
    let (u, f, called, holds, alone, long) = law x [] k ys b j in
    let same : t ≡ u = some_same t u (sym e ∙ f) in (
      sym named ∙ ap (λ (z : Start). z.name) same ∙ called,
      some_same xs ys (sym has ∙ ap (λ (z : Start). option_map (λ (r : List Attr × ℕ). r.0) (attributes_of z.rest)) same ∙ holds),
      sym empty ∙ ap (λ (z : Start). z.is_empty) same ∙ alone,
    )

pub piece_mark : (p : Piece) (x y : List ℕ) → IsPiece p x y → IsMark x y
piece_mark (Opening n attributes) x y i = inl (n, attributes, false, i)
piece_mark (Alone n attributes) x y i = inl (n, attributes, true, i)
piece_mark Closing x y i = inr (inl i)
piece_mark Other x y i = i.0

piece_once : StartTagsAreRead → (p q : Piece) (x y : List ℕ) → IsPiece p x y → IsPiece q x y → p ≡ q
piece_once law (Opening n xs) (Opening k ys) x y i j =
    let same = start_once law x n k xs ys false false i j in ap (λ (z : Named). Opening z xs) same.0 ∙ ap (λ (z : List Attr). Opening k z) same.1
piece_once law (Opening n xs) (Alone k ys) x y i j = let same = start_once law x n k xs ys false true i j in let wrong = same.2 in absurd (cc)
piece_once law (Opening n xs) Closing x y i (k, j) = absurd (not_both law x n k xs false i j)
piece_once law (Opening n xs) Other x y i j = absurd (j.1 (n, xs, false, i))
piece_once law (Alone n xs) (Opening k ys) x y i j = let same = start_once law x n k xs ys true false i j in let wrong = same.2 in absurd (cc)
piece_once law (Alone n xs) (Alone k ys) x y i j =
    let same = start_once law x n k xs ys true true i j in ap (λ (z : Named). Alone z xs) same.0 ∙ ap (λ (z : List Attr). Alone k z) same.1
piece_once law (Alone n xs) Closing x y i (k, j) = absurd (not_both law x n k xs true i j)
piece_once law (Alone n xs) Other x y i j = absurd (j.1 (n, xs, true, i))
piece_once law Closing (Opening k ys) x y (n, i) j = absurd (not_both law x k n ys false j i)
piece_once law Closing (Alone k ys) x y (n, i) j = absurd (not_both law x k n ys true j i)
piece_once law Closing Closing x y i j = refl
piece_once law Closing Other x y (n, i) j = absurd (j.2 n i)
piece_once law Other (Opening k ys) x y i j = absurd (i.1 (k, ys, false, j))
piece_once law Other (Alone k ys) x y i j = absurd (i.1 (k, ys, true, j))
piece_once law Other Closing x y i (k, j) = absurd (i.2 k j)
piece_once law Other Other x y i j = refl

pub same_mark : MarksAreRead → (m rest n tail : List ℕ) → IsMark m rest → IsMark n tail → m ++ rest ≡ n ++ tail → (m ≡ n) × (rest ≡ tail)
same_mark law m rest n tail i j e =
    let size : length m ≡ length n = some_same (length m) (length n) (sym (law m rest i) ∙ ap mark_len e ∙ law n tail j) in (
      sym (take_at m rest (length m) refl) ∙ ap (take (length m)) e ∙ take_at n tail (length m) (sym size),
      sym (drop_at m rest (length m) refl) ∙ ap (drop (length m)) e ∙ drop_at n tail (length m) (sym size),
    )

-- the piece at the start is one
pub same_piece : MarksAreRead → StartTagsAreRead → (p q : Piece) (m rest n tail : List ℕ) → IsPiece p m rest → IsPiece q n tail
    → m ++ rest ≡ n ++ tail → (p ≡ q) × (rest ≡ tail)
same_piece marks starts p q m rest n tail i j e =
    let same = same_mark marks m rest n tail (piece_mark p m rest i) (piece_mark q n tail j) e in
    let k : IsPiece p n tail = subst (λ (z : List ℕ). IsPiece p n z) same.1 (subst (λ (z : List ℕ). IsPiece p z rest) same.0 i) in
    (piece_once starts p q n tail k j, same.1)

-- ---- what is read

-- a start tag that is read is the piece
pub start_is : MarksAreRead → StartTagsAreRead → OnlyStartTagsAreRead → (x : List ℕ) (t : Start) → start_tag x ≡ Some t
    → (p : Piece) (m rest : List ℕ) → IsPiece p m rest → x ≡ m ++ rest
    → (attributes : List Attr) × AreListed t.rest attributes × (p ≡ start_piece t.is_empty t.name attributes)
start_is marks starts only x t e (Opening n xs) m rest i w =
    let (u, f, named, has, empty, size) = starts m rest n xs false i in
    let same : u ≡ t = some_same u t (sym f ∙ ap start_tag (sym w) ∙ e) in (
      xs,
      subst (λ (z : Start). AreListed z.rest xs) same has,
      ap (λ (z : Named). Opening z xs) (sym named ∙ ap (λ (z : Start). z.name) same)
          ∙ ap (λ (z : Bool). start_piece z t.name xs) (sym empty ∙ ap (λ (z : Start). z.is_empty) same),
    )
start_is marks starts only x t e (Alone n xs) m rest i w =
    let (u, f, named, has, empty, size) = starts m rest n xs true i in
    let same : u ≡ t = some_same u t (sym f ∙ ap start_tag (sym w) ∙ e) in (
      xs,
      subst (λ (z : Start). AreListed z.rest xs) same has,
      ap (λ (z : Named). Alone z xs) (sym named ∙ ap (λ (z : Start). z.name) same)
          ∙ ap (λ (z : Bool). start_piece z t.name xs) (sym empty ∙ ap (λ (z : Start). z.is_empty) same),
    )
start_is marks starts only x t e Closing m rest (n, i) w =
    let wrong = sym (no_start_end m rest n i) ∙ ap start_tag (sym w) ∙ e in absurd (cc)
start_is marks starts only x t e Other m rest i w =
    let (y, tail, attributes, whole, size, has, is) = only x t e in
    let same = same_mark marks y tail m rest (inl (t.name, attributes, t.is_empty, is)) i.0 (sym whole ∙ w) in
    absurd (i.1 (t.name, attributes, t.is_empty, subst (λ (z : List ℕ). IsStartTag z t.name attributes t.is_empty) same.0 is))

no_start_is : StartTagsAreRead → (x m rest : List ℕ) (n : Named) (xs : List Attr) (b : Bool) → start_tag x ≡ None → IsStartTag m n xs b
    → x ≡ m ++ rest → ⊥
no_start_is starts x m rest n xs b e i w =
    let (u, f, named, has, empty, size) = starts m rest n xs b i in let wrong = sym e ∙ ap start_tag w ∙ f in absurd (cc)

-- another mark is the piece
pub other_is : MarksAreRead → StartTagsAreRead → EndTagsAreRead → OnlyEndTagsAreRead → (x : List ℕ) → start_tag x ≡ None
    → (scope : List Item) (p : Piece) (m rest : List ℕ) → IsPiece p m rest → x ≡ m ++ rest
    → Gives None (passed_other (end_tag x) scope) (passed p scope)
other_is marks starts ends only x e scope (Opening n xs) m rest i w = absurd (no_start_is starts x m rest n xs false e i w)
other_is marks starts ends only x e scope (Alone n xs) m rest i w = absurd (no_start_is starts x m rest n xs true e i w)
other_is marks starts ends only x e scope Closing m rest (n, i) w =
    sym (ap (λ (q : Option End). Ok (passed_other q scope)) (ap end_tag w ∙ ends m rest n i))
other_is marks starts ends only x e scope Other m rest i w = by_end (end_tag x) refl
  where
    by_end : (q : Option End) → end_tag x ≡ q → Gives None (passed_other (end_tag x) scope) (passed Other scope)
    by_end None f = sym (ap (λ (q : Option End). Ok (passed_other q scope)) f)
    by_end (Some u) f =
        let (y, tail, whole, size, is) = only x u f in
        let same = same_mark marks y tail m rest (inr (inl (u.name, is))) i.0 (sym whole ∙ w) in
        absurd (i.2 u.name (subst (λ (z : List ℕ). IsEndTag z u.name) same.0 is))

-- the piece that a mark of n octets at the start is
abbrev pub Found : List ℕ → ℕ → Type 0
Found x n = (p : Piece) × (m rest : List ℕ) × IsPiece p m rest × (x ≡ m ++ rest) × (n ≡ length m)

tag_piece : (b : Bool) (n : Named) (attributes : List Attr) (x y : List ℕ) → IsStartTag x n attributes b → IsPiece (start_piece b n attributes) x y
tag_piece true n attributes x y i = i
tag_piece false n attributes x y i = i

pub mark_found : MarksAreRead → OnlyMarksAreRead → StartTagsAreRead → OnlyStartTagsAreRead → EndTagsAreRead → OnlyEndTagsAreRead
    → (x : List ℕ) (n : ℕ) → mark_len x ≡ Some n → Found x n
mark_found marks only starts starting ends ending x n e = by_start (start_tag x) refl
  where
    by_end : start_tag x ≡ None → (q : Option End) → end_tag x ≡ q → Found x n
    by_end none None f =
        let (m, rest, w, size, i) = only x n e in (
          Other,
          m,
          rest,
          (
            i,
            λ (k, xs, b, j). no_start_is starts x m rest k xs b none j w,
            λ k j. let wrong = sym f ∙ ap end_tag w ∙ ends m rest k j in absurd (cc),
          ),
          w,
          size,
        )
    by_end none (Some u) f =
        let (m, rest, w, size, i) = ending x u f in
        (Closing, m, rest, (u.name, i), w, some_same n (length m) (sym e ∙ ap mark_len w ∙ marks m rest (inr (inl (u.name, i)))))

    by_start : (q : Option Start) → start_tag x ≡ q → Found x n
    by_start None f = by_end f (end_tag x) refl
    by_start (Some t) f =
        let (m, rest, attributes, w, size, has, i) = starting x t f in (
          start_piece t.is_empty t.name attributes,
          m,
          rest,
          tag_piece t.is_empty t.name attributes m rest i,
          w,
          some_same n (length m) (sym e ∙ ap mark_len w ∙ marks m rest (inl (t.name, attributes, t.is_empty, i))),
        )
