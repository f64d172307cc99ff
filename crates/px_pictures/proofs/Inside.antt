-- A picture's first parts are in the picture, and their pieces have no more bytes than the picture.
use Rattle.std.proofs.Common.{◌≡◌, ◌≤◌, ◌+◌, ◌&&◌, ℕ, inl, inr, Option, Some, None, List, [], ◌∷◌, ◌++◌, length, sym, ap, subst, arith, length-append}
use Rattle.std.specs.List.{AllByRecursion}
use Rattle.std.proofs.lemmas.Bool.{cond-true, cond-false, cases_Bool}
use Rattle.px_jpeg.specs.declared.Part.{Part}
use Rattle.px_jpeg.specs.declared.SegmentKind.{SegmentKind}
use Rattle.px_jpeg.specs.declared.Piece.{Piece}
use Rattle.px_jpeg.specs.Front.{HasFront}
use Rattle.px_jpeg.specs.Head.{IsPart, Encodes, HasHead}
use Rattle.px_jpeg.specs.Pieces.{AllInside, range, segment_kind, piece_in, pieces}
use Rattle.px_pictures.specs.Metadata.{sizes, next_begins, joined_pieces, joined_size}

part_end : (p : ℕ) (q : Part) (x : List ℕ) → IsPart p q x → q.start + q.size ≡ p + length x
part_end p q x (inl a) = omega (arith, a.start, a.empty, ap length a.whole, length-append a.fill (255 ∷ q.code ∷ []))
part_end p q x (inr s) =
    omega (arith, s.start, s.size, ap length s.whole, length-append s.fill (255 ∷ q.code ∷ s.high ∷ s.low ∷ s.octets))

part_size : (p : ℕ) (q : Part) (x : List ℕ) → IsPart p q x → q.size ≤ length x
part_size p q x (inl a) = omega (arith, a.empty)
part_size p q x (inr s) = omega (arith, s.size, ap length s.whole, length-append s.fill (255 ∷ q.code ∷ s.high ∷ s.low ∷ s.octets))

inside_more : (n m : ℕ) (qs : List Part) → n ≤ m → AllByRecursion (λ q. q.start + q.size ≤ n) qs → AllByRecursion
    (λ q. q.start + q.size ≤ m) qs
inside_more n m [] l h = tt
inside_more n m (q ∷ qs) l h = (let k = h.0 in omega arith, inside_more n m qs l h.1)

encodes_inside : (p : ℕ) (qs : List Part) (x : List ℕ) → Encodes p qs x → AllByRecursion (λ q. q.start + q.size ≤ p + length x) qs
encodes_inside p [] x s = tt
encodes_inside p (q ∷ qs) x (a, b, w, i, s) =
    let l = ap length w in
    let e = part_end p q a i in (
      omega (arith, l, length-append a b, e),
      inside_more (p + length a + length b) (p + length x) qs (omega (arith, l, length-append a b))
          (encodes_inside (p + length a) qs b s),
    )

pub head_front : (b : List ℕ) (qs : List Part) → HasHead b qs → HasFront b qs
head_front b qs s = inr (record { encoded = s.encoded; rest = s.rest; whole = s.whole; encodes = s.encodes })

pub front_inside : (b : List ℕ) (qs : List Part) → HasFront b qs → AllInside b qs
front_inside b qs (inl e) = subst (AllInside b) (sym e) tt
front_inside b qs (inr s) =
    inside_more (2 + length s.encoded) (length b) qs (omega (arith, ap length s.whole, length-append s.encoded s.rest))
    (encodes_inside 2 qs s.encoded s.encodes)

-- ---- sizes

pieces_within : (b : List ℕ) (last : Option SegmentKind) (p : ℕ) (qs : List Part) (x : List ℕ) → Encodes p qs x
    → sizes (pieces b last qs) ≤ length x
pieces_within b last p [] x s = omega arith
pieces_within b last p (q ∷ qs) x (a, c, w, i, s) =
    of (segment_kind q.code (range b q.start q.size)) (λ l. pieces_within b l (p + length a) qs c s)
  where
    of : (o : Option SegmentKind) → ((l : Option SegmentKind) → sizes (pieces b l qs) ≤ length c)
        → sizes (piece_in b q last o ++ pieces b o qs) ≤ length x
    of None more = omega (arith, more None, ap length w, length-append a c)
    of (Some k) more = omega (arith, more (Some k), part_size p q a i, ap length w, length-append a c)

joined_fewer : (ps : List Piece) → sizes (joined_pieces ps) ≤ sizes ps
unfolding joined_pieces
joined_fewer [] = omega arith
joined_fewer (p ∷ ps) = elim (cases_Bool (p.begins && next_begins ps)) [
  | inl t ↦ rw (cond-true (p.begins && next_begins ps) (joined_pieces ps) (p ∷ joined_pieces ps) t) (omega (arith, joined_fewer ps))
  | inr f ↦ rw (cond-false (p.begins && next_begins ps) (joined_pieces ps) (p ∷ joined_pieces ps) f) (omega (arith, joined_fewer ps))
]

-- the pieces have no more bytes than the picture
pub front_within : (b : List ℕ) (qs : List Part) → HasFront b qs → sizes (pieces b None qs) ≤ length b
front_within b qs (inl e) = omega (arith, ap (λ (ps : List Part). sizes (pieces b None ps)) e)
front_within b qs (inr s) =
    omega (arith, pieces_within b None 2 qs s.encoded s.encodes, ap length s.whole, length-append s.encoded s.rest)

-- no more than these are joined
pub joined_within : (b : List ℕ) (qs : List Part) → HasFront b qs → joined_size b qs ≤ length b
joined_within b qs s = omega (arith, joined_fewer (pieces b None qs), front_within b qs s)
