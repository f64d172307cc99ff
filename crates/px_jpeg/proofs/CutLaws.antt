-- The blocks that end before a fault are the first of each picture that begins with these bytes.
use Rattle.std.proofs.Common.{◌≡◌, ◌≤◌, ◌<◌, ◌+◌, ◌-◌, ℕ, true, false, inl, inr, ◌⊎◌, Option, Some, None, if◌then◌else◌}
use Rattle.std.proofs.Common.{List, [], ◌∷◌, ◌++◌, length, take, drop, refl, sym, ap, ap₂, ◌∙◌, subst, arith, length-append, length-drop}
use Rattle.std.proofs.Common.{append_assoc, drop_at, take_at}
use Rattle.std.proofs.Math.Seq.{take-append_seam}
use Rattle.std.proofs.lemmas.Bool.{cases_Bool, cases_lt}
use Rattle.std.proofs.lemmas.List.{drop-drop, take-append-drop, take-append-le, drop-append-le}
use Rattle.std.specs.List.{AllByRecursion}
use Rattle.px_jpeg.specs.declared.parts.Part.{Part}
use Rattle.px_jpeg.specs.declared.faults.HeadCause.{HeadCause}
use Rattle.px_jpeg.specs.declared.faults.HeadCause.TheVariants.{NoStart, NoMarker, LengthForm, HeadCut}
use Rattle.px_jpeg.specs.declared.pieces.SegmentKind.{SegmentKind}
use Rattle.px_jpeg.specs.declared.pieces.SegmentKind.TheVariants.{Exif, Photoshop, Xmp, ExtendedXmp}
use Rattle.px_jpeg.specs.declared.pieces.Piece.{Piece}
use Rattle.px_jpeg.specs.Head.{stands_alone, is_last, IsPart}
use Rattle.px_jpeg.specs.Fault.{FaultAt, SplitAt}
use Rattle.px_jpeg.specs.Front.{last_kind, MayContinue, WithoutLast, AreOpen, AreEnded}
use Rattle.px_jpeg.specs.Pieces.{AllInside, exif_mark, is_exif, segment_kind, mark_len, is_header, begins, range, piece_of, piece_in, pieces}
use Rattle.px_jpeg.specs.Blocks.{JoinedBlock, piece_octets, joined, blocks}
use Rattle.px_jpeg.specs.Laws.{AreFirst, AreParts, EndedServe}
use Rattle.px_jpeg.specs.Reading.{is_part, part, size, front_left, front}
use Rattle.px_jpeg.proofs.HeadLaws.{fault_no_part}
use Rattle.px_jpeg.proofs.OnePart.{Reads, part_reads, part_begins}
use Rattle.px_jpeg.proofs.FirstParts.{front_none, front_is_last, front_goes_on, front_encoded, front_after, head_front, after_front, front_inside}
use Rattle.px_jpeg.proofs.BlockLaws.{joined_first, joined_later, none_before}
use Rattle.px_jpeg.proofs.EndLaws.{pieces_append, later_exif}
use Rattle.px_jpeg.proofs.LaterLaws.{exif_front}
use Rattle.px_jpeg.proofs.ContinueLaws.{Continues, kind_exif, data_at, continues_by}

-- ---- the same bytes in a longer picture

abbrev IsWithin : ℕ → ℕ → ℕ → Type 0
IsWithin long start size = (start + size ≤ long) ⊎ (size ≡ 0)

range_more : (b more : List ℕ) (s n : ℕ) → IsWithin (length b) s n → range (b ++ more) s n ≡ range b s n
range_more b more s n (inl l) =
    ap (take n) (drop-append-le s b more (omega (arith, l)))
    ∙ take-append-le n (drop s b) more (omega (arith, l, length-drop s b))
range_more b more s n (inr e) = ap (λ (k : ℕ). range (b ++ more) s k) e ∙ sym (ap (λ (k : ℕ). range b s k) e)

within_part : (long start size m : ℕ) → start + size ≤ long → IsWithin long (start + m) (size - m)
within_part long start size m l = elim (cases_lt m size) [
  | inl k ↦ inl (omega (arith, l, k))
  | inr k ↦ inr (omega (arith, k))
]

abbrev AllWithin : List ℕ → List Piece → Type 0
AllWithin b ps = AllByRecursion (λ (p : Piece). IsWithin (length b) p.start p.size) ps

within_left : (b : List ℕ) (ps qs : List Piece) → AllWithin b (ps ++ qs) → AllWithin b ps
within_left b [] qs h = tt
within_left b (p ∷ ps) qs h = (h.0, within_left b ps qs h.1)

pieces_within : (b : List ℕ) (last : Option SegmentKind) (qs : List Part) → AllInside b qs → AllWithin b (pieces b last qs)
pieces_within b last [] h = tt
pieces_within b last (q ∷ qs) h = of (segment_kind q.code (range b q.start q.size)) (pieces_within b (segment_kind q.code (range b q.start q.size)) qs h.1)
  where
    of : (o : Option SegmentKind) → AllWithin b (pieces b o qs) → AllWithin b (piece_in b q last o ++ pieces b o qs)
    of None k = k
    of (Some n) k = (within_part (length b) q.start q.size (mark_len n) h.0, k)

module _ (b more : List ℕ) where
  piece_more : (q : Part) (last o : Option SegmentKind) → q.start + q.size ≤ length b → piece_in (b ++ more) q last o ≡ piece_in b q last o
  piece_more q last None l = refl
  piece_more q last (Some k) l =
      ap (λ (x : List ℕ). let p : Piece = record {
        kind = k;
        begins = begins k last x;
        start = q.start + mark_len k;
        size = q.size - mark_len k;
      } in p ∷ []) (range_more b more (q.start + mark_len k) (q.size - mark_len k) (within_part (length b) q.start q.size (mark_len k) l))

  pieces_more : (last : Option SegmentKind) (qs : List Part) → AllInside b qs → pieces (b ++ more) last qs ≡ pieces b last qs
  pieces_more last [] h = refl
  pieces_more last (q ∷ qs) h =
      ap (λ (x : List ℕ). piece_in (b ++ more) q last (segment_kind q.code x) ++ pieces (b ++ more) (segment_kind q.code x) qs)
      (range_more b more q.start q.size (inl h.0))
      ∙ ap₂ (λ (xs ys : List Piece). xs ++ ys) (piece_more q last (segment_kind q.code (range b q.start q.size)) h.0)
      (pieces_more (segment_kind q.code (range b q.start q.size)) qs h.1)

  last_more : (last : Option SegmentKind) (qs : List Part) → AllInside b qs → last_kind (b ++ more) last qs ≡ last_kind b last qs
  last_more last [] h = refl
  last_more last (q ∷ qs) h =
      ap (λ (x : List ℕ). last_kind (b ++ more) (segment_kind q.code x) qs) (range_more b more q.start q.size (inl h.0))
      ∙ last_more (segment_kind q.code (range b q.start q.size)) qs h.1

  joined_more : (ps : List Piece) → AllWithin b ps → joined (b ++ more) ps ≡ joined b ps
  unfolding joined
  joined_more [] h = refl
  joined_more (p ∷ ps) h =
      ap₂ (λ (x : List ℕ) (j : List ℕ × List JoinedBlock). let k : JoinedBlock = record { kind = p.kind; octets = x ++ j.0 } in
      if p.begins then ([], k ∷ j.1) else (x ++ j.0, j.1)) (range_more b more p.start p.size h.0) (joined_more ps h.1)

-- ---- the blocks of more pieces

abbrev Joined : Type 0
Joined = List ℕ × List JoinedBlock

first_append : (ks ls : List JoinedBlock) → AreFirst ks (ks ++ ls)
first_append [] ls = tt
first_append (k ∷ []) ls = inl refl
first_append (k ∷ j ∷ ks) ls = (refl, first_append (j ∷ ks) ls)

-- one piece before others
abbrev one_joined : List ℕ → Piece → Joined → Joined
one_joined b p j = ([], record { kind = p.kind; octets = piece_octets b p ++ j.0 } ∷ j.1)

abbrev one_later : List ℕ → Piece → Joined → Joined
one_later b p j = (piece_octets b p ++ j.0, j.1)

joined_append : (b : List ℕ) (ps qs : List Piece) → (joined b qs).0 ≡ []
    → joined b (ps ++ qs) ≡ ((joined b ps).0, (joined b ps).1 ++ (joined b qs).1)
unfolding joined
joined_append b [] qs e = ap (λ (x : List ℕ). (x, (joined b qs).1)) e
joined_append b (p ∷ ps) qs e = elim (cases_Bool p.begins) [
  | inl t ↦
      joined_first b p (ps ++ qs) t ∙ ap (one_joined b p) (joined_append b ps qs e)
      ∙ sym (ap (λ (j : Joined). (j.0, j.1 ++ (joined b qs).1)) (joined_first b p ps t))
  | inr f ↦
      joined_later b p (ps ++ qs) f ∙ ap (one_later b p) (joined_append b ps qs e)
      ∙ sym (ap (λ (j : Joined). (j.0, j.1 ++ (joined b qs).1)) (joined_later b p ps f))
]

appended_first : (b : List ℕ) (ps qs : List Piece) → (joined b qs).0 ≡ [] → AreFirst (joined b ps).1 (joined b (ps ++ qs)).1
appended_first b ps qs e =
    subst (λ (j : Joined). AreFirst (joined b ps).1 j.1) (sym (joined_append b ps qs e)) (first_append (joined b ps).1 (joined b qs).1)

no_pieces : (b : List ℕ) → (joined b []).0 ≡ []
unfolding joined
no_pieces b = refl

-- j has the blocks i, and m more bytes behind the last, which is of Photoshop's resources
record Extends (m : List ℕ) (last : Option SegmentKind) (i j : Joined) : Type 0 where
  first : AreFirst i.1 j.1
  bare : i.1 ≡ [] → (j.0 ≡ i.0 ++ m) × (last ≡ Some Photoshop)
  closed : (k : JoinedBlock) (ks : List JoinedBlock) → i.1 ≡ k ∷ ks → j.0 ≡ i.0

begun : (b : List ℕ) (p : Piece) (m : List ℕ) (last : Option SegmentKind) (i j : Joined) → Extends m (Some p.kind) i j
    → Extends m last (one_joined b p i) (one_joined b p j)
begun b p m last (o, []) j x =
    let (e, f) = x.bare refl in
    let k : p.kind ≡ Photoshop = cc in
    record {
      first = inr (k, k, (m, ap (λ (y : List ℕ). piece_octets b p ++ y) e ∙ sym (append_assoc (piece_octets b p) o m)));
      bare = λ n. absurd (cc);
      closed = λ _ _ _. refl;
    }
begun b p m last (o, k ∷ ks) j x = record {
  first = (
    ap (λ (y : List ℕ). let l : JoinedBlock = record { kind = p.kind; octets = piece_octets b p ++ y } in l) (sym (x.closed k ks refl)),
    x.first,
  );
  bare = λ n. absurd (cc);
  closed = λ _ _ _. refl;
}

gone_on : (b : List ℕ) (p : Piece) (m : List ℕ) (last : Option SegmentKind) (i j : Joined) → (p.kind ≡ Photoshop → last ≡ Some Photoshop)
    → Extends m (Some p.kind) i j → Extends m last (one_later b p i) (one_later b p j)
gone_on b p m last i j l x = record {
  first = x.first;
  bare = λ n.
      let (e, f) = x.bare n in
      let k : p.kind ≡ Photoshop = cc in (
        ap (λ (y : List ℕ). piece_octets b p ++ y) e ∙ sym (append_assoc (piece_octets b p) i.0 m),
        l k,
      );
  closed = λ k ks n. ap (λ (y : List ℕ). piece_octets b p ++ y) (x.closed k ks n);
}

later_photoshop : (b : List ℕ) (q : Part) (last : Option SegmentKind) → (piece_of b q Photoshop last).begins ≡ false → last ≡ Some Photoshop
later_photoshop b q None e = let clash : true ≡ false = e in absurd (cc)
later_photoshop b q (Some Exif) e = let clash : true ≡ false = e in absurd (cc)
later_photoshop b q (Some Photoshop) e = refl
later_photoshop b q (Some Xmp) e = let clash : true ≡ false = e in absurd (cc)
later_photoshop b q (Some ExtendedXmp) e = let clash : true ≡ false = e in absurd (cc)

extends : (b : List ℕ) (qs : List Piece) (last : Option SegmentKind) (ps : List Part) → last_kind b last ps ≡ Some Photoshop
    → Extends (joined b qs).0 last (joined b (pieces b last ps)) (joined b (pieces b last ps ++ qs))
unfolding joined
extends b qs last [] h = record { first = tt; bare = λ _. (refl, h); closed = λ k ks n. absurd (cc) }
extends b qs last (q ∷ ps) h = of (segment_kind q.code (range b q.start q.size)) (extends b qs (segment_kind q.code (range b q.start q.size)) ps h)
  where
    m : List ℕ
    m = (joined b qs).0

    same : (k : SegmentKind) → (piece_of b q k last).begins ≡ false → k ≡ Photoshop → last ≡ Some Photoshop
    same Photoshop f e = later_photoshop b q last f
    same Exif f e = absurd (cc)
    same Xmp f e = absurd (cc)
    same ExtendedXmp f e = absurd (cc)

    of : (o : Option SegmentKind) → Extends m o (joined b (pieces b o ps)) (joined b (pieces b o ps ++ qs))
        → Extends m last (joined b (piece_in b q last o ++ pieces b o ps)) (joined b ((piece_in b q last o ++ pieces b o ps) ++ qs))
    of None x = record {
      first = x.first;
      bare = λ n. let f = (x.bare n).1 in absurd (cc);
      closed = x.closed;
    }
    of (Some k) x =
        let p : Piece = piece_of b q k last in
        let xs : List Piece = pieces b (Some k) ps in
        elim (cases_Bool p.begins) [
          | inl t ↦
              subst (λ (i : Joined). Extends m last i (joined b (p ∷ (xs ++ qs)))) (sym (joined_first b p xs t))
              (subst (λ (j : Joined). Extends m last (one_joined b p (joined b xs)) j) (sym (joined_first b p (xs ++ qs) t))
              (begun b p m last (joined b xs) (joined b (xs ++ qs)) x))
          | inr f ↦
              subst (λ (i : Joined). Extends m last i (joined b (p ∷ (xs ++ qs)))) (sym (joined_later b p xs f))
              (subst (λ (j : Joined). Extends m last (one_later b p (joined b xs)) j) (sym (joined_later b p (xs ++ qs) f))
              (gone_on b p m last (joined b xs) (joined b (xs ++ qs)) (same k f) x))
        ]

-- ---- a segment of Exif at some offset of a picture

continues_at : (b before a after : List ℕ) (p : ℕ) (q : Part) → b ≡ before ++ (a ++ after) → length before ≡ p → IsPart p q a
    → segment_kind q.code (range b q.start q.size) ≡ Some Exif → is_header (range b (q.start + 6) (q.size - 6)) ≡ false → Continues a
continues_at b before a after p q w l (inl s) k h =
    let code = (exif_front q.code (range b q.start q.size) (kind_exif q.code (range b q.start q.size) k)).0 in
    let clash : false ≡ true = ap stands_alone (sym code) ∙ s.alone in absurd (cc)
continues_at b before a after p q w l (inr s) k h =
    let exif = kind_exif q.code (range b q.start q.size) k in
    let code = (exif_front q.code (range b q.start q.size) exif).0 in
    let fill : List ℕ = before ++ s.fill in
    let start : q.start ≡ length fill + 4 = omega (arith, s.start, l, length-append before s.fill) in
    let whole : b ≡ fill ++ 255 ∷ q.code ∷ s.high ∷ s.low ∷ (s.octets ++ after) =
    w ∙ ap (λ (x : List ℕ). before ++ (x ++ after)) s.whole
    ∙ ap (λ (x : List ℕ). before ++ x) (append_assoc s.fill (255 ∷ q.code ∷ s.high ∷ s.low ∷ s.octets) after)
    ∙ sym (append_assoc before s.fill (255 ∷ q.code ∷ s.high ∷ s.low ∷ (s.octets ++ after))) in
    let there : drop (length fill + 4) b ≡ s.octets ++ after = data_at b fill q.code s.high s.low (s.octets ++ after) whole in
    let all : range b q.start q.size ≡ s.octets =
    ap₂ (λ (n m : ℕ). range b n m) start s.size ∙ ap (take (length s.octets)) there ∙ take-append_seam s.octets after in
    let is : is_exif 225 s.octets ≡ true = ap₂ is_exif (sym code) (sym all) ∙ exif in
    let long : 6 ≤ length s.octets =
    let e = ap (λ (x : List ℕ). length x) (exif_front 225 s.octets is).1 in
    omega (arith, e, length-append exif_mark (drop 6 s.octets)) in
    let rest : range b (q.start + 6) (q.size - 6) ≡ drop 6 s.octets =
    ap₂ (λ (n m : ℕ). range b (n + 6) (m - 6)) start s.size
    ∙ ap (take (length s.octets - 6)) (sym (drop-drop 6 (length fill + 4) b) ∙ ap (drop 6) there ∙ drop-append-le 6 s.octets after long)
    ∙ take_at (drop 6 s.octets) after (length s.octets - 6) (length-drop 6 s.octets) in
    record {
      fill = s.fill;
      high = s.high;
      low = s.low;
      octets = s.octets;
      filled = s.filled;
      whole = s.whole ∙ ap (λ (c : ℕ). s.fill ++ 255 ∷ c ∷ s.high ∷ s.low ∷ s.octets) code;
      counted = s.counted;
      exif = is;
      later = ap is_header (sym rest) ∙ h;
    }

bytes_left : (x y : List ℕ) → AllByRecursion (λ o. o < 256) (x ++ y) → AllByRecursion (λ o. o < 256) x
bytes_left [] y h = tt
bytes_left (o ∷ x) y h = (h.0, bytes_left x y h.1)

-- ---- a picture that begins with these bytes

module _ (b more rest : List ℕ) (all : List Part) (c : HeadCause) (p : ℕ) (r : SplitAt b all rest p) (f : FaultAt c rest) where
  abbrev place : ℕ
  place = 2 + length r.front

  abbrev tail : List Part
  tail = front_left place (rest ++ more)

  longer : b ++ more ≡ 255 ∷ 216 ∷ (r.front ++ (rest ++ more))
  longer =
      ap (λ (x : List ℕ). x ++ more) r.whole ∙ ap (λ (x : List ℕ). 255 ∷ 216 ∷ x) (append_assoc r.front rest more)

  front_longer : front (b ++ more) ≡ all ++ tail
  front_longer =
      ap front longer ∙ front_after (r.front ++ (rest ++ more)) ∙ front_encoded all 2 r.front (rest ++ more) r.encodes r.before

  inside : AllInside b all
  inside = subst (AllInside b) (after_front b c p all rest r f) (front_inside b)

  rest_is : drop p b ≡ rest
  rest_is = ap (drop p) r.whole ∙ drop_at (255 ∷ 216 ∷ r.front) rest p (omega (arith, r.place))

  front_is : (whole : List Part) → AreParts (b ++ more) whole → whole ≡ front (b ++ more)
  front_is whole (inl s) = sym (head_front (b ++ more) whole s)
  front_is whole (inr (NoStart, d, g)) = absurd (g.1.1 (r.front ++ (rest ++ more)) longer)
  front_is whole (inr (NoMarker, d, (left, s, g))) = sym (after_front (b ++ more) NoMarker d whole left s g)
  front_is whole (inr (LengthForm, d, (left, s, g))) = sym (after_front (b ++ more) LengthForm d whole left s g)
  front_is whole (inr (HeadCut, d, (left, s, g))) = sym (after_front (b ++ more) HeadCut d whole left s g)

  -- the first part behind `all`
  module _ (q : Part) (qs : List Part) (e : tail ≡ q ∷ qs) where
    there : is_part (rest ++ more) ≡ true
    there = elim (cases_Bool (is_part (rest ++ more))) [
      | inl t ↦ t
      | inr n ↦ let clash : [] ≡ q ∷ qs = sym (front_none place (rest ++ more) n) ∙ e in absurd (cc)
    ]

    reads : Reads place (part place (rest ++ more)) (size (rest ++ more)) (rest ++ more)
    reads = record { there = there; value = refl; sized = refl }

    is_q : part place (rest ++ more) ≡ q
    is_q = elim (cases_Bool (is_last (part place (rest ++ more)).code)) [
      | inl t ↦
          let g = sym (front_is_last place (part place (rest ++ more)) (size (rest ++ more)) (rest ++ more) reads t) ∙ e in cc
      | inr n ↦
          let g = sym (front_goes_on place (part place (rest ++ more)) (size (rest ++ more)) (rest ++ more) reads n) ∙ e in cc
    ]

    may_continue : AllByRecursion (λ o. o < 256) more → segment_kind q.code (range (b ++ more) q.start q.size) ≡ Some Exif
        → is_header (range (b ++ more) (q.start + 6) (q.size - 6)) ≡ false → MayContinue rest
    may_continue bytes k h =
        let g = part_begins place (rest ++ more) there in
        let a : List ℕ = g.front in
        let after : List ℕ = drop (size (rest ++ more)) (rest ++ more) in
        let is : IsPart place q a = subst (λ (s : Part). IsPart place s a) is_q g.is in
        let long : length rest < length a = elim (cases_lt (length rest) (length a)) [
          | inl l ↦ l
          | inr l ↦
              let same : take (length a) rest ≡ a =
              sym (take-append-le (length a) rest more l) ∙ ap (take (length a)) g.whole ∙ take-append_seam a after in
              let w : a ++ drop (length a) rest ≡ rest =
              ap (λ (x : List ℕ). x ++ drop (length a) rest) (sym same) ∙ take-append-drop (length a) rest in
              let clash : true ≡ false =
              sym (part_reads place q a (drop (length a) rest) is).there ∙ ap is_part w ∙ fault_no_part c rest f in
              absurd (cc)
        ] in
        let left : List ℕ = drop (length rest) a in
        let same : take (length rest) a ≡ rest =
        sym (take-append-le (length rest) a after (omega (arith, long))) ∙ ap (take (length rest)) (sym g.whole) ∙ take-append_seam rest more in
        let whole : a ≡ rest ++ left =
        sym (take-append-drop (length rest) a) ∙ ap (λ (x : List ℕ). x ++ left) same in
        let some : more ≡ left ++ after =
        sym (drop_at rest more (length rest) refl) ∙ ap (drop (length rest)) g.whole
        ∙ drop-append-le (length rest) a after (omega (arith, long)) in
        let before : List ℕ = 255 ∷ 216 ∷ r.front in
        let at : b ++ more ≡ before ++ (a ++ after) = longer ∙ ap (λ (x : List ℕ). before ++ x) g.whole in
        continues_by rest left (bytes_left left after (subst (AllByRecursion (λ o. o < 256)) some bytes))
        (subst Continues whole (continues_at (b ++ more) before a after place q at (omega arith) is k h))

  module _ (whole : List Part) (w : AreParts (b ++ more) whole) where
    abbrev others : List Piece
    others = pieces (b ++ more) (last_kind (b ++ more) None all) tail

    whole_pieces : pieces (b ++ more) None whole ≡ pieces b None all ++ others
    whole_pieces =
        ap (pieces (b ++ more) None) (front_is whole w ∙ front_longer) ∙ pieces_append (b ++ more) None all tail
        ∙ ap (λ (ps : List Piece). ps ++ others) (pieces_more b more None all inside)

    -- the pieces xs are the first, and ys the others
    first_of : (xs ys : List Piece) → pieces b None all ++ others ≡ xs ++ ys → AllWithin b xs
        → AreFirst (joined (b ++ more) xs).1 (joined (b ++ more) (xs ++ ys)).1
        → AreFirst (joined b xs).1 (blocks (b ++ more) whole)
    first_of xs ys e i h =
        subst (λ (ks : List JoinedBlock). AreFirst ks (blocks (b ++ more) whole)) (ap (λ (j : Joined). j.1) (joined_more b more xs i))
        (subst (λ (ps : List Piece). AreFirst (joined (b ++ more) xs).1 (joined (b ++ more) ps).1) (sym (whole_pieces ∙ e)) h)

    all_within : AllWithin b (pieces b None all)
    all_within = pieces_within b None all inside

    without : (parts : List Part) → WithoutLast b all parts → AreFirst (blocks b parts) (blocks (b ++ more) whole)
    without parts l =
        let xs : List Piece = pieces b None parts in
        let ys : List Piece = (l.first ∷ l.others) ++ others in
        first_of xs ys
        (ap (λ (ps : List Piece). ps ++ others) l.whole ∙ append_assoc xs (l.first ∷ l.others) others)
        (within_left b xs (l.first ∷ l.others) (subst (AllWithin b) l.whole all_within))
        (appended_first (b ++ more) xs ys (ap (λ (j : Joined). j.0) (joined_first (b ++ more) l.first (l.others ++ others) l.begins)))

    closed : AllByRecursion (λ o. o < 256) more → (AreOpen b all rest → ⊥) → AreFirst (blocks b all) (blocks (b ++ more) whole)
    closed bytes n = first_of (pieces b None all) others refl all_within (of tail refl)
      where
        last : Option SegmentKind
        last = last_kind (b ++ more) None all

        xs : List Piece
        xs = pieces b None all

        nothing : (ys : List Piece) → others ≡ ys → (joined (b ++ more) ys).0 ≡ []
            → AreFirst (joined (b ++ more) xs).1 (joined (b ++ more) (xs ++ others)).1
        nothing ys e h = appended_first (b ++ more) xs others (ap (λ (ps : List Piece). (joined (b ++ more) ps).0) e ∙ h)

        goes_on : (q : Part) (qs : List Part) → tail ≡ q ∷ qs → (k : SegmentKind) → segment_kind q.code (range (b ++ more) q.start q.size) ≡ Some k
            → (piece_of (b ++ more) q k last).begins ≡ false → AreFirst (joined (b ++ more) xs).1 (joined (b ++ more) (xs ++ others)).1
        goes_on q qs e Exif g h =
            let same : last ≡ Some Exif = later_exif (b ++ more) q last h in
            let later : is_header (range (b ++ more) (q.start + 6) (q.size - 6)) ≡ false =
            subst (λ (o : Option SegmentKind). (piece_of (b ++ more) q Exif o).begins ≡ false) same h in
            absurd (n (sym (last_more b more None all inside) ∙ same, may_continue q qs e bytes g later))
        goes_on q qs e Photoshop g h =
            subst (λ (ps : List Piece). AreFirst (joined (b ++ more) ps).1 (joined (b ++ more) (ps ++ others)).1)
            (pieces_more b more None all inside)
            (extends (b ++ more) others None all (later_photoshop (b ++ more) q last h)).first
        goes_on q qs e Xmp g h = let clash : true ≡ false = h in absurd (cc)
        goes_on q qs e ExtendedXmp g h = let clash : true ≡ false = h in absurd (cc)

        one : (q : Part) (qs : List Part) → tail ≡ q ∷ qs → (o : Option SegmentKind) → segment_kind q.code (range (b ++ more) q.start q.size) ≡ o
            → AreFirst (joined (b ++ more) xs).1 (joined (b ++ more) (xs ++ others)).1
        one q qs e None g =
            nothing (pieces (b ++ more) None qs)
            (ap (pieces (b ++ more) last) e
            ∙ ap (λ (o : Option SegmentKind). piece_in (b ++ more) q last o ++ pieces (b ++ more) o qs) g) (none_before (b ++ more) qs)
        one q qs e (Some k) g = elim (cases_Bool (piece_of (b ++ more) q k last).begins) [
          | inl t ↦
              nothing (piece_of (b ++ more) q k last ∷ pieces (b ++ more) (Some k) qs)
              (ap (pieces (b ++ more) last) e
              ∙ ap (λ (o : Option SegmentKind). piece_in (b ++ more) q last o ++ pieces (b ++ more) o qs) g)
              (ap (λ (j : Joined). j.0) (joined_first (b ++ more) (piece_of (b ++ more) q k last) (pieces (b ++ more) (Some k) qs) t))
          | inr h ↦ goes_on q qs e k g h
        ]

        of : (ps : List Part) → tail ≡ ps → AreFirst (joined (b ++ more) xs).1 (joined (b ++ more) (xs ++ others)).1
        of [] e = nothing [] (ap (pieces (b ++ more) last) e) (no_pieces (b ++ more))
        of (q ∷ qs) e = one q qs e (segment_kind q.code (range (b ++ more) q.start q.size)) refl

    served : (parts : List Part) → AllByRecursion (λ o. o < 256) more → AreEnded b all (drop p b) parts
        → AreFirst (blocks b parts) (blocks (b ++ more) whole)
    served parts bytes (inl (n, e)) =
        subst (λ (ps : List Part). AreFirst (blocks b ps) (blocks (b ++ more) whole)) (sym e)
        (closed bytes (λ o. n (subst (AreOpen b all) (sym rest_is) o)))
    served parts bytes (inr (o, l)) = without parts l

pub ended_serve : EndedServe
ended_serve b more NoStart p parts whole n bytes g w = absurd (n refl)
ended_serve b more NoMarker p parts whole n bytes (all, (rest, r, f), a) w = served b more rest all NoMarker p r f whole w parts bytes a
ended_serve b more LengthForm p parts whole n bytes (all, (rest, r, f), a) w = served b more rest all LengthForm p r f whole w parts bytes a
ended_serve b more HeadCut p parts whole n bytes (all, (rest, r, f), a) w = served b more rest all HeadCut p r f whole w parts bytes a
