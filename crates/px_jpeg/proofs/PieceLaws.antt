-- Pieces, part by part; and the parts of a head are in the picture.
use Rattle.std.proofs.Common.{◌≡◌, ◌≢◌, ◌==◌, ◌≤◌, ◌+◌, ℕ, List, [], ◌∷◌, ◌++◌, length, Option, Some, None, sym, ap, ◌∙◌, subst, arith, length-append}
use Rattle.std.specs.List.{AllByRecursion}
use Rattle.px_jpeg.specs.declared.parts.Part.{Part}
use Rattle.px_jpeg.specs.declared.pieces.SegmentKind.{SegmentKind}
use Rattle.px_jpeg.specs.Head.{Encodes, HasHead}
use Rattle.px_jpeg.specs.declared.pieces.Piece.{Piece}
use Rattle.px_jpeg.specs.declared.contents.HeadPart.{HeadPart}
use Rattle.px_jpeg.specs.Pieces.{AllInside, is_exif, is_photoshop, is_xmp, is_extended, segment_kind, range, piece_of, piece_in, pieces, head_part, with_pieces}
use Rattle.px_jpeg.specs.Laws.{PiecesFound}
use Rattle.std.proofs.Common.{is_some, unwrap_or, true, refl, suc}
use Rattle.std.proofs.lemmas.Bool.{cond-false, and_left, ne_eqb}
use Rattle.std.specs.Prelude.{filter_map}
use Rattle.px_jpeg.specs.Reading.{head_of}
use Rattle.px_jpeg.proofs.FirstParts.{some_has_meaning}
use Rattle.px_jpeg.proofs.Walking.{part_end}

-- a segment of another marker than APP1 and APP13
pub other_marker : (c : ℕ) (x : List ℕ) → c ≢ 225 → c ≢ 237 → segment_kind c x ≡ None
unfolding segment_kind is_exif is_photoshop is_xmp is_extended
other_marker c x h k =
    cond-false (is_exif c x) _ _ (and_left (c == 225) _ (ne_eqb c 225 h))
    ∙ cond-false (is_photoshop c x) _ _ (and_left (c == 237) _ (ne_eqb c 237 k))
    ∙ cond-false (is_xmp c x) _ _ (and_left (c == 225) _ (ne_eqb c 225 h))
    ∙ cond-false (is_extended c x) _ _ (and_left (c == 225) _ (ne_eqb c 225 h))

pub piece_first : (b : List ℕ) (last : Option SegmentKind) (ps qs : List Part) (q : Part) (y : List ℕ) (k : SegmentKind) → ps ≡ q ∷ qs
    → y ≡ range b q.start q.size → Some k ≡ segment_kind q.code y → pieces b last ps ≡ piece_of b q k last ∷ pieces b (Some k) qs
piece_first b last ps qs q y k e r h =
    ap (pieces b last) e
    ∙ ap (λ (o : Option SegmentKind). piece_in b q last o ++ pieces b o qs) (ap (segment_kind q.code) (sym r) ∙ sym h)

pub piece_none : (b : List ℕ) (last : Option SegmentKind) (ps qs : List Part) (q : Part) (y : List ℕ) → ps ≡ q ∷ qs
    → y ≡ range b q.start q.size → None ≡ segment_kind q.code y → pieces b last ps ≡ pieces b None qs
piece_none b last ps qs q y e r h =
    ap (pieces b last) e
    ∙ ap (λ (o : Option SegmentKind). piece_in b q last o ++ pieces b o qs) (ap (segment_kind q.code) (sym r) ∙ sym h)

pub first_inside : (b : List ℕ) (ps qs : List Part) (q : Part) → ps ≡ q ∷ qs → AllInside b ps →
    (q.start + q.size ≤ length b) × AllInside b qs
first_inside b ps qs q e h = subst (AllInside b) e h

pub inside_more : (n m : ℕ) (qs : List Part) → n ≤ m → AllByRecursion (λ q. q.start + q.size ≤ n) qs → AllByRecursion
    (λ q. q.start + q.size ≤ m) qs
inside_more n m [] l h = tt
inside_more n m (q ∷ qs) l h = (let k = h.0 in omega arith, inside_more n m qs l h.1)

encodes_inside : (p : ℕ) (qs : List Part) (x : List ℕ) → Encodes p qs x → AllByRecursion (λ q. q.start + q.size ≤ p + length x) qs
encodes_inside p [] x s = tt
encodes_inside p (q ∷ qs) x (a, b, w, i, s) =
    let l = ap length w ∙ length-append a b in
    let e = part_end p q a i in
    (omega arith, inside_more (p + length a + length b) (p + length x) qs (omega arith) (encodes_inside (p + length a) qs b s))

pub head_inside : (b : List ℕ) (qs : List Part) → HasHead b qs → AllInside b qs
head_inside b qs s =
    let l = ap length s.whole in
    let k = length-append s.encoded s.rest in
    inside_more (2 + length s.encoded) (length b) qs (omega arith) (encodes_inside 2 qs s.encoded s.encodes)

pub parts_inside : (b : List ℕ) → is_some (head_of b) ≡ true → AllInside b (unwrap_or (head_of b) [])
parts_inside b h = head_inside b (unwrap_or (head_of b) []) (some_has_meaning b h)

-- ---- parts with their pieces

pub found_long : (b : List ℕ) (last : Option SegmentKind) (qs : List Part) → length (with_pieces b last qs) ≡ length qs
found_long b last [] = refl
found_long b last (q ∷ qs) = ap suc (found_long b (segment_kind q.code (range b q.start q.size)) qs)

found_all : (b : List ℕ) (last : Option SegmentKind) (qs : List Part)
    → filter_map (λ (h : HeadPart). h.piece) (with_pieces b last qs) ≡ pieces b last qs
found_all b last [] = refl
found_all b last (q ∷ qs) = of (segment_kind q.code (range b q.start q.size)) (found_all b (segment_kind q.code (range b q.start q.size)) qs)
  where
    of : (o : Option SegmentKind) → filter_map (λ (h : HeadPart). h.piece) (with_pieces b o qs) ≡ pieces b o qs
        → filter_map (λ (h : HeadPart). h.piece) (head_part b q last o ∷ with_pieces b o qs) ≡ piece_in b q last o ++ pieces b o qs
    of None h = h
    of (Some k) h = ap (λ (ps : List Piece). piece_of b q k last ∷ ps) h

pub pieces_found : PiecesFound
pieces_found b parts = found_all b None parts
