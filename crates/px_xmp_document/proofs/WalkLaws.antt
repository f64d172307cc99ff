-- A walk over elements in which nothing is wrong.
use Rattle.std.proofs.Common.{◌≡◌, ◌≤◌, ◌==◌, ◌&&◌, nat_eq, get_or, take, codes, arith, ℕ, Bool, true, false, Option, Some, None, option_map, IfSome, List, [], ◌∷◌, ◌++◌, length, drop, Ok, refl, sym, ap, subst, ◌∙◌, inl, inr}
use Rattle.std.specs.List.{AllByRecursion, starts_with}
use Rattle.std.specs.Cmp.Lexicographic.{pointwise}
use Rattle.std.proofs.lemmas.Bool.{cond-false, eqb-true, eqb-false}
use Rattle.std.proofs.lemmas.List.{drop_at}
use Rattle.px_xmp_marks.specs.Reading.{Named, Attr, attributes_of, Start, start_tag, End, end_tag}
use Rattle.px_xmp_marks.specs.Grammar.{IsStartTag}
use Rattle.px_xmp_marks.specs.Laws.{HasAttributes, StartTagsAreRead, OnlyStartTagsAreRead, EndTagsAreRead, OnlyEndTagsAreRead}
use Rattle.px_xmp_marks.specs.Marks.{IsMark, AreMarks}
use Rattle.px_xmp_markup.specs.Kinds.{Kind, Closing, IsKind, AreKinds, Marked, mark, start_kind, OnlyKindsAreRead}
use Rattle.px_xmp_markup.specs.Nesting.{Place, Among, After, LeadTo}
use Rattle.px_xmp_markup.specs.declared.faults.TreeCause.{TreeCause}
use Rattle.px_xmp_markup.specs.TreeFaults.{IsWrong, IsFaulty, IsTreeFault}
use Rattle.px_xmp_markup.specs.calls.Steps.{Step, StepsLead}
use Rattle.px_xmp_markup.specs.Distinct.{AreDistinct, HasDistinct}
use Rattle.px_xmp_document.specs.Pieces.{Piece, Closing as ClosingPiece, Other, IsPiece, ArePieces}
use Rattle.px_xmp_document.specs.Scopes.{Item, ended}
use Rattle.px_xmp_document.specs.Tags.{passed}
use Rattle.px_xmp_document.specs.SpaceFaults.{Lead}
use Rattle.px_xmp_document.specs.calls.Passing.{start_piece}
use Rattle.px_xmp_document.specs.Elements.{AreElements}
use Rattle.px_xmp_document.specs.calls.Walks.{PassesTag, Goes}
use Rattle.px_xmp_document.proofs.TreeLaws.{kind_mark}

some_same : {A : Type 0} (p q : A) → Some p ≡ Some q → p ≡ q
some_same p q h = cc

-- ---- one mark

-- a tag begins with `<`
pub no_start_tag : (x : List ℕ) → 1 ≤ length x → nat_eq (get_or x 0 0) 60 ≡ false → start_tag x ≡ None
unfolding start_tag
no_start_tag [] l h = absurd (omega (arith, l))
no_start_tag (o ∷ x) l h = cond-false (o == 60) _ None h

pub no_end_tag : (x : List ℕ) → 1 ≤ length x → nat_eq (get_or x 0 0) 60 ≡ false → end_tag x ≡ None
unfolding end_tag
no_end_tag [] l h = absurd (omega (arith, l))
no_end_tag (o ∷ x) l h = cond-false (starts_with nat_eq (o ∷ x) (codes "</")) _ None (other o x h)
  where
    fails : (b : Bool) → (b ≡ true → ⊥) → b ≡ false
    fails true h = absurd (h refl)
    fails false h = refl

    other : (o : ℕ) (x : List ℕ) → (o == 60) ≡ false → starts_with nat_eq (o ∷ x) (codes "</") ≡ false
    other o x f =
        ap (λ (b : Bool). b && pointwise nat_eq (codes "/") (take 1 x))
        (fails (60 == o) (λ t. eqb-false o 60 f (sym (eqb-true 60 o t))))

-- the attributes of a tag are those that are read
tag_distinct : StartTagsAreRead → (x : List ℕ) (t : Start) (attributes : List Attr) → start_tag x ≡ Some t → HasAttributes t attributes
    → AreDistinct attributes → (m rest : List ℕ) → x ≡ m ++ rest → HasDistinct m
tag_distinct law x t attributes e has d m rest w n others empty i =
    let (u, g, named, holds, is_empty, size) = law m rest n others empty i in
    let same : u ≡ t = some_same u t (sym g ∙ ap start_tag (sym w) ∙ e) in
    let one : attributes ≡ others =
    some_same attributes others (sym has ∙ ap (λ (z : Start). option_map (λ (r : List Attr × ℕ). r.0) (attributes_of z.rest)) (sym same) ∙ holds) in
    subst AreDistinct one d

no_tag_distinct : StartTagsAreRead → (x : List ℕ) → start_tag x ≡ None → (m rest : List ℕ) → x ≡ m ++ rest → HasDistinct m
no_tag_distinct law x e m rest w n others empty i =
    let (u, g, named, has, is_empty, size) = law m rest n others empty i in let wrong = sym e ∙ ap start_tag w ∙ g in absurd (cc)

tag_kind : (b : Bool) (n : Named) (attributes : List Attr) (m rest : List ℕ) → IsStartTag m n attributes b → IsKind (start_kind b n) m rest
tag_kind true n attributes m rest i = (attributes, i)
tag_kind false n attributes m rest i = (attributes, i)

tag_piece : (b : Bool) (n : Named) (attributes : List Attr) (m rest : List ℕ) → IsStartTag m n attributes b
    → IsPiece (start_piece b n attributes) m rest
tag_piece true n attributes m rest i = i
tag_piece false n attributes m rest i = i

-- a start tag goes on
pub tag_goes : StartTagsAreRead → OnlyStartTagsAreRead → (x : List ℕ) (t : Start) (attributes : List Attr) (p q : Place) (s u : List Item)
    → start_tag x ≡ Some t → HasAttributes t attributes → PassesTag t attributes p q s u → Goes x t.size p q s u
tag_goes law only x t attributes p q s u e has (step, distinct, leads) =
    let (m, rest, read, whole, size, holds, is) = only x t e in
    let same : read ≡ attributes = some_same read attributes (sym holds ∙ has) in
    record {
      mark = m;
      rest = rest;
      whole = whole;
      size = size;
      kind = start_kind t.is_empty t.name;
      is_kind = tag_kind t.is_empty t.name read m rest is;
      step = step;
      distinct = tag_distinct law x t attributes e has distinct m rest whole;
      piece = start_piece t.is_empty t.name read;
      is_piece = tag_piece t.is_empty t.name read m rest is;
      leads = ap (λ (z : List Attr). passed (start_piece t.is_empty t.name z) s) same ∙ leads;
    }

-- an end tag goes on
pub end_goes : StartTagsAreRead → OnlyEndTagsAreRead → (x : List ℕ) (t : End) (p q : Place) (s u : List Item)
    → start_tag x ≡ None → end_tag x ≡ Some t → Step (Closing t.name) p q → u ≡ ended s → Goes x t.size p q s u
end_goes law only x t p q s u none e step after =
    let (m, rest, whole, size, is) = only x t e in
    record {
      mark = m;
      rest = rest;
      whole = whole;
      size = size;
      kind = Closing t.name;
      is_kind = is;
      step = step;
      distinct = no_tag_distinct law x none m rest whole;
      piece = ClosingPiece;
      is_piece = (t.name, is);
      leads = ap Ok (sym after);
    }

-- another mark goes on
pub other_goes : StartTagsAreRead → EndTagsAreRead → OnlyKindsAreRead → (x : List ℕ) (k : Marked) (p q : Place) (s : List Item)
    → start_tag x ≡ None → end_tag x ≡ None → mark x ≡ Some k → Step k.kind p q → Goes x k.size p q s s
other_goes law ends only x k p q s none no_end e step =
    let (m, rest, whole, size, is) = only x k e in
    record {
      mark = m;
      rest = rest;
      whole = whole;
      size = size;
      kind = k.kind;
      is_kind = is;
      step = step;
      distinct = no_tag_distinct law x none m rest whole;
      piece = Other;
      is_piece = (
        kind_mark k.kind m rest is,
        λ (n, attributes, b, i).
            let (u, g, named, has, is_empty, long) = law m rest n attributes b i in let wrong = sym none ∙ ap start_tag whole ∙ g in absurd (cc),
        λ n i. let wrong = sym no_end ∙ ap end_tag whole ∙ ends m rest n i in absurd (cc),
      );
      leads = refl;
    }

-- ---- marks in a row

-- the marks before y lead to a place and a scope, and nothing is wrong with one of them
pub record Before (x y : List ℕ) (p : Place) (s : List Item) : Type 0 where
  pub kinds : List Kind
  pub are_kinds : AreKinds kinds x y
  pub lead : LeadTo p kinds
  pub marks : List (List ℕ)
  pub are_marks : AreMarks marks x y
  pub distinct : AllByRecursion HasDistinct marks
  pub pieces : List Piece
  pub are_pieces : ArePieces pieces x y
  pub leads : Lead [] pieces s

kinds_more : (ks : List Kind) (x y : List ℕ) (k : Kind) (m rest : List ℕ) → AreKinds ks x y → y ≡ m ++ rest → IsKind k m rest
    → AreKinds (ks ++ k ∷ []) x rest
kinds_more [] x y k m rest p e i = (m, rest, i, p ∙ e, refl)
kinds_more (l ∷ ks) x y k m rest (n, tail, j, w, more) e i = (n, tail, j, w, kinds_more ks tail y k m rest more e i)

marks_more : (ms : List (List ℕ)) (x y m rest : List ℕ) → AreMarks ms x y → y ≡ m ++ rest → IsMark m rest → AreMarks (ms ++ m ∷ []) x rest
marks_more [] x y m rest p e i = (rest, i, p ∙ e, refl)
marks_more (n ∷ ms) x y m rest (tail, j, w, more) e i = (tail, j, w, marks_more ms tail y m rest more e i)

distinct_more : (ms : List (List ℕ)) (m : List ℕ) → AllByRecursion HasDistinct ms → HasDistinct m → AllByRecursion HasDistinct (ms ++ m ∷ [])
distinct_more [] m a d = (d, tt)
distinct_more (n ∷ ms) m a d = (a.0, distinct_more ms m a.1 d)

pieces_more : (ps : List Piece) (x y m rest : List ℕ) (p : Piece) → ArePieces ps x y → y ≡ m ++ rest → IsPiece p m rest
    → ArePieces (ps ++ p ∷ []) x rest
pieces_more [] x y m rest p a e i = (m, rest, i, a ∙ e, refl)
pieces_more (q ∷ ps) x y m rest p (n, tail, j, w, more) e i = (n, tail, j, w, pieces_more ps tail y m rest p more e i)

lead_more : (ps : List Piece) (o s t : List Item) (p : Piece) → Lead o ps s → passed p s ≡ Ok t → Lead o (ps ++ p ∷ []) t
lead_more [] o s t p e h = (t, ap (passed p) e ∙ h, refl)
lead_more (q ∷ ps) o s t p (u, k, l) h = (u, k, lead_more ps u s t p l h)

pub none_before : (x : List ℕ) → Before x x (Among []) []
none_before x = record {
  kinds = [];
  are_kinds = refl;
  lead = tt;
  marks = [];
  are_marks = refl;
  distinct = tt;
  pieces = [];
  are_pieces = refl;
  leads = refl;
}

pub one_more : StepsLead → (x y : List ℕ) (n : ℕ) (p q : Place) (s u : List Item) → Before x y p s → Goes y n p q s u → Before x (drop n y) q u
one_more law x y n p q s u b g =
    let left : drop n y ≡ g.rest = ap (drop n) g.whole ∙ drop_at g.mark g.rest n (sym g.size) in
    let all : Before x g.rest q u = record {
      kinds = b.kinds ++ g.kind ∷ [];
      are_kinds = kinds_more b.kinds x y g.kind g.mark g.rest b.are_kinds g.whole g.is_kind;
      lead = law g.kind p q b.kinds b.lead g.step;
      marks = b.marks ++ g.mark ∷ [];
      are_marks = marks_more b.marks x y g.mark g.rest b.are_marks g.whole (kind_mark g.kind g.mark g.rest g.is_kind);
      distinct = distinct_more b.marks g.mark b.distinct g.distinct;
      pieces = b.pieces ++ g.piece ∷ [];
      are_pieces = pieces_more b.pieces x y g.mark g.rest g.piece b.are_pieces g.whole g.is_piece;
      leads = lead_more b.pieces [] s u g.piece b.leads g.leads;
    } in
    subst (λ (z : List ℕ). Before x z q u) (sym left) all

pub all_passed : (x : List ℕ) (s : List Item) → Before x [] After s → AreElements x
all_passed x s b = ((b.kinds, b.are_kinds, b.lead), (b.marks, b.are_marks, b.distinct), (b.pieces, s, b.are_pieces, b.leads))

-- ---- what is wrong with the nesting

tag_wrong : OnlyStartTagsAreRead → (x : List ℕ) (t : Start) (p : Place) (c : TreeCause) → start_tag x ≡ Some t
    → IsWrong (start_kind t.is_empty t.name) p c → IsFaulty p x c
tag_wrong only x t p c e wrong =
    let (m, rest, read, whole, size, holds, is) = only x t e in
    inr (inl (start_kind t.is_empty t.name, (m, rest, tag_kind t.is_empty t.name read m rest is, whole), wrong))

pub end_wrong : OnlyEndTagsAreRead → (x : List ℕ) (t : End) (p : Place) (c : TreeCause) → end_tag x ≡ Some t → IsWrong (Closing t.name) p c
    → IsFaulty p x c
end_wrong only x t p c e wrong =
    let (m, rest, whole, size, is) = only x t e in inr (inl (Closing t.name, (m, rest, is, whole), wrong))

pub other_wrong : OnlyKindsAreRead → (x : List ℕ) (k : Marked) (p : Place) (c : TreeCause) → mark x ≡ Some k → IsWrong k.kind p c → IsFaulty p x c
other_wrong only x k p c e wrong =
    let (m, rest, whole, size, is) = only x k e in inr (inl (k.kind, (m, rest, is, whole), wrong))

-- the same of what is found or not
pub tag_wrongs : OnlyStartTagsAreRead → (x : List ℕ) (t : Start) (p : Place) → start_tag x ≡ Some t → (e : Option TreeCause)
    → IfSome e (λ (c : TreeCause). IsWrong (start_kind t.is_empty t.name) p c) → IfSome e (λ (c : TreeCause). IsFaulty p x c)
tag_wrongs only x t p e None wrong = wrong
tag_wrongs only x t p e (Some c) wrong = tag_wrong only x t p c e wrong

pub wrong_here : (x : List ℕ) (at : ℕ) (p : Place) (s : List Item) (c : TreeCause) → at ≤ length x → Before x (drop at x) p s
    → IsFaulty p (drop at x) c → IsTreeFault x c at
wrong_here x at p s c within b wrong = record {
  within = within;
  before = b.kinds;
  place = p;
  marked = b.are_kinds;
  leads = b.lead;
  wrong = wrong;
}
