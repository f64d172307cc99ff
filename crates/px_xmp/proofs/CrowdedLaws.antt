-- In a document no tag has more attributes than this reader judges.
use Rattle.std.proofs.Common.{◌≡◌, ◌≤◌, ◌<◌, ◌+◌, ◌&&◌, ◌++◌, ◌∙◌, inl, inr, refl, ℕ, suc, Bool, true, false, not, nat_le, nat_lt, if◌then◌else◌, Option, Some, None, option_map, Result, Ok, Err, List, [], ◌∷◌, length, take, drop, sym, ap, subst, arith, length-append, length-drop, drop-drop}
use Rattle.std.proofs.lemmas.Bool.{lt-ltb}
use Rattle.std.proofs.lemmas.List.{drop_at, take_at}
use Rattle.px_xmp_marks.specs.Reading.{Named, Attr, Next, next_attribute, Start, start_tag_view, start_tag}
use Rattle.px_xmp_marks.specs.Grammar.{IsStartTag}
use Rattle.px_xmp_marks.specs.Laws.{AttributesInOrder, HasAttributes, StartTagsAreRead, OnlyStartTagsAreRead}
use Rattle.px_xmp_marks.specs.Marks.{mark_len, text_len, IsMark, AreMarks, MarksAreRead, OnlyMarksAreRead}
use Rattle.px_xmp_marks.specs.declared.tags.StartTag.{StartTag}
use Rattle.px_xmp_document.specs.declared.faults.SpaceCause.{SpaceCause}
use Rattle.px_xmp_document.specs.declared.faults.SpaceCause.TheVariants.{TooMany, Undeclared, ManyAttributes, SameName}
use Rattle.px_xmp_document.specs.Pieces.{Piece, Opening, Alone, Closing, Other, IsPiece, ArePieces}
use Rattle.px_xmp_document.specs.Scopes.{Item, Element, limit, ended}
use Rattle.px_xmp_document.specs.Bindings.{and_then, with_attributes}
use Rattle.px_xmp_document.specs.Tags.{attribute_limit, is_element_bound, are_bound, are_unique, judged, opened, passed}
use Rattle.px_xmp_document.specs.SpaceFaults.{Lead, HasSpaces}
use Rattle.px_xmp.specs.calls.Listed.{AreListed}
use Rattle.px_xmp.specs.Limits.{IsCrowded}
use Rattle.px_xmp.specs.calls.Crowded.{AreMany, HasMany}
use Rattle.px_xmp.proofs.TagLaws.{next_listed, none_listed}
use Rattle.px_xmp.proofs.NestLaws.{same_attributes, no_start_end}

-- ---- attributes

-- of these attributes so many are left, if n more are judged
abbrev pub LeftOf : List Attr → List ℕ → ℕ → Type 0
LeftOf attributes rest n = (more : List Attr) × AreListed rest more × (length attributes + n ≡ attribute_limit + length more)

pub next_of : AttributesInOrder → (attributes : List Attr) (rest : List ℕ) (n m : ℕ) (next : Next) → LeftOf attributes rest n → next_attribute rest ≡ Some next
    → n ≡ suc m → LeftOf attributes next.rest m
next_of law attributes rest n m next (more, listed, same) e one =
    let (others, first, left) = next_listed law rest more next listed e in
    (others, left, omega (arith, same, one, ap length first))

pub many_of : AttributesInOrder → (attributes : List Attr) (rest : List ℕ) (next : Next) → LeftOf attributes rest 0 → next_attribute rest ≡ Some next
    → AreMany true attributes
many_of law attributes rest next (more, listed, same) e =
    let (others, first, left) = next_listed law rest more next listed e in omega (arith, same, ap length first)

pub few_of : AttributesInOrder → (attributes : List Attr) (rest : List ℕ) (n : ℕ) → LeftOf attributes rest n → next_attribute rest ≡ None
    → AreMany false attributes
few_of law attributes rest n (more, listed, same) e =
    let none = none_listed law rest more listed e in omega (arith, same, ap length none)

-- ---- marks in a row

abbrev pub Row : List ℕ → List ℕ → Type 0
Row x y = (ms : List (List ℕ)) × AreMarks ms x y

row_more : (ms : List (List ℕ)) (x y m rest : List ℕ) → AreMarks ms x y → y ≡ m ++ rest → IsMark m rest → Row x rest
row_more [] x y m rest p e i = (m ∷ [], (rest, i, p ∙ e, refl))
row_more (k ∷ ms) x y m rest (r, j, w, more) e i = let (ns, q) = row_more ms r y m rest more e i in (k ∷ ns, (r, j, w, q))

-- one mark more
pub row_step : OnlyMarksAreRead → (x y : List ℕ) (n : ℕ) → Row x y → mark_len y ≡ Some n → Row x (drop n y)
row_step only x y n (ms, p) h =
    let (m, rest, whole, size, is) = only y n h in
    let left : drop n y ≡ rest = ap (drop n) whole ∙ drop_at m rest n (sym size) in
    subst (Row x) (sym left) (row_more ms x y m rest p whole is)

pub crowded_here : OnlyStartTagsAreRead → (x : List ℕ) (at : ℕ) (tag : Option StartTag) (many : Bool) → Row x (drop at x)
    → option_map start_tag_view tag ≡ start_tag (drop at x) → HasMany tag many → many ≡ true → IsCrowded x at
crowded_here only x at None many row e has is = absurd (cc)
crowded_here only x at (Some t) many (ms, before) e has is =
    let (m, rest, attributes, whole, size, listed, start) = only (drop at x) (start_tag_view t) (sym e) in
    record {
      marks = ms;
      before = before;
      name = (start_tag_view t).name;
      attributes = attributes;
      empty = t.is_empty;
      tag = m;
      rest = rest;
      is_tag = start;
      whole = whole;
      many = subst (λ (b : Bool). AreMany b attributes) is (has attributes listed);
    }

pub crowded_not : StartTagsAreRead → (x : List ℕ) (at : ℕ) (tag : Option StartTag) (many : Bool) → option_map start_tag_view tag ≡ start_tag (drop at x)
    → HasMany tag many → many ≡ false → IsCrowded x at → ⊥
crowded_not law x at tag many e has few h =
    let (t, read, named, listed, empty, size) = law h.tag h.rest h.name h.attributes h.empty h.is_tag in
    by_tag tag t has (e ∙ ap start_tag h.whole ∙ read) listed
  where
    by_tag : (tag : Option StartTag) (t : Start) → HasMany tag many → option_map start_tag_view tag ≡ Some t → HasAttributes t h.attributes → ⊥
    by_tag None t given same listed = absurd (cc)
    by_tag (Some s) t given same listed =
        let view : start_tag_view s ≡ t = cc in
        let all : AreMany many h.attributes = given h.attributes (subst (λ (z : Start). HasAttributes z h.attributes) (sym view) listed) in
        let bound : length h.attributes ≤ attribute_limit = subst (λ (b : Bool). AreMany b h.attributes) few all in omega (arith, bound, h.many)

pub crowded_within : (x : List ℕ) (n : ℕ) → IsCrowded x n → n < length x
crowded_within x n h =
    let (y, z, name, attributes, w) = h.is_tag in
    omega (arith, ap length h.whole, ap length w, length-append h.tag h.rest, length-drop n x)

pub none_after : (x : List ℕ) (at n : ℕ) → length x ≤ at → at ≤ n → IsCrowded x n → ⊥
none_after x at n end after h = omega (arith, end, after, crowded_within x n h)

row_shorter : (ms : List (List ℕ)) (x y : List ℕ) → AreMarks ms x y → length y ≤ length x
row_shorter [] x y e = omega (arith, ap length e)
row_shorter (m ∷ ms) x y (rest, i, w, more) = omega (arith, ap length w, length-append m rest, row_shorter ms rest y more)

some_size : (p q : ℕ) → Some p ≡ Some q → p ≡ q
some_size p q h = cc

-- a tag ahead stays ahead of the mark at the start
pub ahead_step : MarksAreRead → (x : List ℕ) (at size n : ℕ) → (at ≤ n) × Row (drop at x) (drop n x) → mark_len (drop at x) ≡ Some size
    → IsCrowded x n → (IsCrowded x at → ⊥) → (at + size ≤ n) × Row (drop (at + size) x) (drop n x)
ahead_step law x at size n (le, ([], e)) read h here =
    let same : n ≡ at = omega (arith, le, ap length e, length-drop at x, length-drop n x, crowded_within x n h) in
    absurd (here (subst (IsCrowded x) same h))
ahead_step law x at size n (le, (m ∷ ms, (rest, i, w, more))) read h here =
    let long : size ≡ length m = some_size size (length m) (sym read ∙ ap mark_len w ∙ law m rest i) in
    let left : drop (at + size) x ≡ rest = sym (drop-drop size at x) ∙ ap (drop size) w ∙ drop_at m rest size (sym long) in (
      omega (arith, row_shorter ms rest (drop n x) more, ap length left, length-drop (at + size) x, length-drop n x, crowded_within x n h),
      subst (λ (z : List ℕ). Row z (drop n x)) (sym left) (ms, more),
    )

-- no tag is ahead of octets that begin with no mark
pub none_unread : MarksAreRead → (x : List ℕ) (at n : ℕ) → Row (drop at x) (drop n x) → mark_len (drop at x) ≡ None → IsCrowded x n → ⊥
none_unread law x at n ([], e) read h =
    let wrong = sym read ∙ ap mark_len (e ∙ h.whole) ∙ law h.tag h.rest (inl (h.name, h.attributes, h.empty, h.is_tag)) in absurd (cc)
none_unread law x at n (m ∷ ms, (rest, i, w, more)) read h = let wrong = sym read ∙ ap mark_len w ∙ law m rest i in absurd (cc)

-- ---- a document

none_here : mark_len [] ≡ None
unfolding mark_len text_len
none_here = refl

no_mark_here : MarksAreRead → (m rest : List ℕ) → IsMark m rest → m ++ rest ≡ [] → ⊥
no_mark_here law m rest i e = let wrong = sym (law m rest i) ∙ ap mark_len e ∙ none_here in absurd (cc)

some_length : (p q : ℕ) → Some p ≡ Some q → p ≡ q
some_length p q h = cc

same_mark : MarksAreRead → (m rest n tail : List ℕ) → IsMark m rest → IsMark n tail → m ++ rest ≡ n ++ tail → (m ≡ n) × (rest ≡ tail)
same_mark law m rest n tail i j e =
    let size : length m ≡ length n = some_length (length m) (length n) (sym (law m rest i) ∙ ap mark_len e ∙ law n tail j) in (
      sym (take_at m rest (length m) refl) ∙ ap (take (length m)) e ∙ take_at n tail (length m) (sym size),
      sym (drop_at m rest (length m) refl) ∙ ap (drop (length m)) e ∙ drop_at n tail (length m) (sym size),
    )

piece_mark : (p : Piece) (x y : List ℕ) → IsPiece p x y → IsMark x y
piece_mark (Opening n attributes) x y i = inl (n, attributes, false, i)
piece_mark (Alone n attributes) x y i = inl (n, attributes, true, i)
piece_mark Closing x y i = inr (inl i)
piece_mark Other x y i = i.0

judged_many : (n : Named) (attributes : List Attr) (scope inner : List Item) → nat_lt attribute_limit (length attributes) ≡ true
    → judged n attributes scope ≡ Ok inner → ⊥
judged_many n attributes scope inner many e =
    choose (is_element_bound scope n && are_bound scope attributes) (nat_lt attribute_limit (length attributes)) (are_unique scope attributes) many e
  where
    choose : (a b d : Bool) → b ≡ true
        → (if not a then Err Undeclared else if b then Err ManyAttributes else if d then Ok scope else Err SameName) ≡ Ok inner → ⊥
    choose false b d h e = absurd (cc)
    choose true true d h e = absurd (cc)
    choose true false d h e = absurd (cc)

opened_many : (n : Named) (attributes : List Attr) (scope inner : List Item) → nat_lt attribute_limit (length attributes) ≡ true
    → opened n attributes scope ≡ Ok inner → ⊥
opened_many n attributes scope inner many e = choose (nat_le limit (length scope)) (with_attributes attributes (Element ∷ scope)) e
  where
    choose : (b : Bool) (r : Result (List Item) SpaceCause) → (if b then Err TooMany else and_then r (λ z. judged n attributes z)) ≡ Ok inner → ⊥
    choose true r e = absurd (cc)
    choose false (Err c) e = absurd (cc)
    choose false (Ok s) e = judged_many n attributes s inner many e

piece_many : StartTagsAreRead → (p : Piece) (m rest : List ℕ) (n : Named) (attributes : List Attr) (empty : Bool) (scope next : List Item)
    → IsPiece p m rest → IsStartTag m n attributes empty → attribute_limit < length attributes → passed p scope ≡ Ok next → ⊥
piece_many law (Opening k xs) m rest n attributes empty scope next i j many e =
    let same : xs ≡ attributes = same_attributes law m k n xs attributes false empty i j in
    opened_many k xs scope next (lt-ltb attribute_limit (length xs) (omega (arith, many, ap length same))) e
piece_many law (Alone k xs) m rest n attributes empty scope next i j many e =
    let same : xs ≡ attributes = same_attributes law m k n xs attributes true empty i j in
    by_result (opened k xs scope) refl e
  where
    by_result : (r : Result (List Item) SpaceCause) → opened k xs scope ≡ r → and_then r (λ inner. Ok (ended inner)) ≡ Ok next → ⊥
    by_result (Err c) f g = absurd (cc)
    by_result (Ok inner) f g =
        opened_many k xs scope inner (lt-ltb attribute_limit (length xs) (omega (arith, many, ap length (same_attributes law m k n xs attributes true empty i j)))) f
piece_many law Closing m rest n attributes empty scope next (k, i) j many e = no_start_end law m n k attributes empty i j
piece_many law Other m rest n attributes empty scope next i j many e = i.1 (n, attributes, empty, j)

module _ (marks : MarksAreRead) (starts : StartTagsAreRead) where
  none_beside : (ms : List (List ℕ)) (ps : List Piece) (x y tag rest : List ℕ) (scope last : List Item) (n : Named) (attributes : List Attr) (empty : Bool)
      → AreMarks ms x y → ArePieces ps x [] → Lead scope ps last → IsStartTag tag n attributes empty → y ≡ tag ++ rest
      → attribute_limit < length attributes → ⊥
  none_beside [] [] x y tag rest scope last n attributes empty e f leads is w many =
      no_mark_here marks tag rest (inl (n, attributes, empty, is)) (sym w ∙ sym e ∙ f)
  none_beside [] (p ∷ ps) x y tag rest scope last n attributes empty e (m, k, i, v, more) (next, passes, leads) is w many =
      let same = same_mark marks m k tag rest (piece_mark p m k i) (inl (n, attributes, empty, is)) (sym v ∙ e ∙ w) in
      piece_many starts p tag k n attributes empty scope next (subst (λ (z : List ℕ). IsPiece p z k) same.0 i) is many passes
  none_beside (k ∷ ms) [] x y tag rest scope last n attributes empty (r, j, v, more) f leads is w many = no_mark_here marks k r j (sym v ∙ f)
  none_beside (k ∷ ms) (p ∷ ps) x y tag rest scope last n attributes empty (r, j, v, before) (m, s, i, u, more) (next, passes, leads) is w many =
      let same = same_mark marks k r m s j (piece_mark p m s i) (sym v ∙ u) in
      none_beside ms ps r y tag rest next last n attributes empty before (subst (λ (z : List ℕ). ArePieces ps z []) (sym same.1) more) leads is w many

  -- where prefixes are declared, no tag has so many attributes
  pub none_crowded : (x : List ℕ) (at : ℕ) → HasSpaces x → IsCrowded x at → ⊥
  none_crowded x at (ps, last, are, leads) h =
      none_beside h.marks ps x (drop at x) h.tag h.rest [] last h.name h.attributes h.empty h.before are leads h.is_tag h.whole h.many
