-- The parts whose blocks end before the fault of a head.
use Rattle.std.proofs.Common.{◌≡◌, ◌+◌, ℕ, Bool, true, false, inl, inr, Option, Some, None}
use Rattle.std.proofs.Common.{List, [], ◌∷◌, ◌++◌, length, take, drop, refl, sym, ap, ap₂, ◌∙◌, subst, arith, length-append, append_assoc, append-nil, take_at}
use Rattle.std.specs.List.{AllByRecursion}
use Rattle.std.specs.Prelude.{MatchOption}
use Rattle.px_jpeg.specs.declared.parts.Part.{Part}
use Rattle.px_jpeg.specs.declared.faults.HeadCause.{HeadCause}
use Rattle.px_jpeg.specs.declared.faults.HeadCause.TheVariants.{NoStart, NoMarker, LengthForm, HeadCut}
use Rattle.px_jpeg.specs.declared.pieces.SegmentKind.{SegmentKind}
use Rattle.px_jpeg.specs.declared.pieces.SegmentKind.TheVariants.{Exif, Photoshop, Xmp, ExtendedXmp}
use Rattle.px_jpeg.specs.declared.pieces.Piece.{Piece}
use Rattle.px_jpeg.specs.Head.{is_last, Encodes, HasHead}
use Rattle.px_jpeg.specs.Fault.{FaultAt, SplitAt, HasHeadFault, FaultAfter}
use Rattle.px_jpeg.specs.Front.{HasFront, last_kind, MayContinue, WithoutLast, AreEnded, IsEnded}
use Rattle.px_jpeg.specs.Pieces.{segment_kind, range, piece_of, piece_in, pieces}
use Rattle.px_jpeg.specs.Reading.{is_part, part, starts, front}
use Rattle.px_jpeg.proofs.HeadLaws.{start_off, one_head, fault_excludes, one_fault}
use Rattle.px_jpeg.proofs.Walking.{part_end, next_after, means_head}
use Rattle.px_jpeg.proofs.FirstParts.{front_nil, front_after, front_encoded, front_ends}

-- ---- pieces of more parts

pub pieces_append : (b : List ℕ) (last : Option SegmentKind) (ps qs : List Part)
    → pieces b last (ps ++ qs) ≡ pieces b last ps ++ pieces b (last_kind b last ps) qs
pieces_append b last [] qs = refl
pieces_append b last (p ∷ ps) qs =
    let k : Option SegmentKind = segment_kind p.code (range b p.start p.size) in
    ap (λ (xs : List Piece). piece_in b p last k ++ xs) (pieces_append b k ps qs)
    ∙ sym (append_assoc (piece_in b p last k) (pieces b k ps) (pieces b (last_kind b k ps) qs))

last_append : (b : List ℕ) (last : Option SegmentKind) (ps qs : List Part) → last_kind b last (ps ++ qs) ≡ last_kind b (last_kind b last ps) qs
last_append b last [] qs = refl
last_append b last (p ∷ ps) qs = last_append b (segment_kind p.code (range b p.start p.size)) ps qs

all_more : (ps : List Piece) (p : Piece) → AllByRecursion (λ (r : Piece). r.begins ≡ false) ps → p.begins ≡ false
    → AllByRecursion (λ (r : Piece). r.begins ≡ false) (ps ++ p ∷ [])
all_more [] p h k = (k, tt)
all_more (q ∷ ps) p h k = (h.0, all_more ps p h.1 k)

-- ---- a walk from part to part

-- the parts up to offset `at`, the last of which contains `last`; if that is Exif, its block begins with the part at offset `begun`
pub record Walked (b : List ℕ) (at begun : ℕ) (last : Option SegmentKind) : Type 0 where
  pub parts : List Part
  pub before : List Part
  pub after : SplitAt b parts (drop at b) at
  pub kind : last ≡ last_kind b None parts
  pub block : last ≡ Some Exif → SplitAt b before (drop begun b) begun × WithoutLast b parts before

pub walk_start : (b : List ℕ) → starts b ≡ true → Walked b 2 2 None
walk_start b s = record {
  parts = [];
  before = [];
  after = record { front = []; whole = start_off b s; encodes = refl; before = tt; place = refl };
  kind = refl;
  block = λ e. absurd (cc);
}

pub later_exif : (b : List ℕ) (q : Part) (last : Option SegmentKind) → (piece_of b q Exif last).begins ≡ false → last ≡ Some Exif
later_exif b q None e = let clash : true ≡ false = e in absurd (cc)
later_exif b q (Some Exif) e = refl
later_exif b q (Some Photoshop) e = let clash : true ≡ false = e in absurd (cc)
later_exif b q (Some Xmp) e = let clash : true ≡ false = e in absurd (cc)
later_exif b q (Some ExtendedXmp) e = let clash : true ≡ false = e in absurd (cc)

-- the part q is at offset `at`, and contains k
module _ (b : List ℕ) (at begun : ℕ) (last : Option SegmentKind) (w : Walked b at begun last) (y : List ℕ) (q : Part) (e : y ≡ drop at b)
    (h : is_part y ≡ true) (v : q ≡ part at y) (x : List ℕ) (r : x ≡ range b q.start q.size) (k : Option SegmentKind) (i : k ≡ segment_kind q.code x) where
  kind_is : k ≡ last_kind b None (w.parts ++ q ∷ [])
  kind_is = i ∙ ap (segment_kind q.code) r ∙ sym (last_append b None w.parts (q ∷ []))

  pieces_are : pieces b None (w.parts ++ q ∷ []) ≡ pieces b None w.parts ++ (piece_in b q last k ++ [])
  pieces_are =
      pieces_append b None w.parts (q ∷ [])
      ∙ ap₂ (λ (l o : Option SegmentKind). pieces b None w.parts ++ (piece_in b q l o ++ [])) (sym w.kind) (sym (i ∙ ap (segment_kind q.code) r))

  with_one : (l : Option SegmentKind) → k ≡ Some Exif → l ≡ last → pieces b None (w.parts ++ q ∷ []) ≡ pieces b None w.parts ++ piece_of b q Exif l ∷ []
  with_one l f g =
      pieces_are ∙ ap₂ (λ (m o : Option SegmentKind). pieces b None w.parts ++ (piece_in b q m o ++ [])) (sym g) f

  begins_there : k ≡ Some Exif → (piece_of b q Exif last).begins ≡ true → WithoutLast b (w.parts ++ q ∷ []) w.parts
  begins_there f t = record {
    first = piece_of b q Exif last;
    others = [];
    whole = with_one last f refl;
    begins = t;
    continue = tt;
  }

  continues_there : k ≡ Some Exif → (piece_of b q Exif last).begins ≡ false → WithoutLast b w.parts w.before
      → WithoutLast b (w.parts ++ q ∷ []) w.before
  continues_there f t l = record {
    first = l.first;
    others = l.others ++ piece_of b q Exif last ∷ [];
    whole =
        with_one last f refl ∙ ap (λ (ps : List Piece). ps ++ piece_of b q Exif last ∷ []) l.whole
        ∙ append_assoc (pieces b None w.before) (l.first ∷ l.others) (piece_of b q Exif last ∷ []);
    begins = l.begins;
    continue = all_more l.others (piece_of b q Exif last) l.continue t;
  }

  module _ (l : is_last q.code ≡ false) (t : Bool) (m : MatchOption k (t ≡ true) (λ (o : SegmentKind). t ≡ (piece_of b q o last).begins)) where
    exif_begins : k ≡ Some Exif → t ≡ (piece_of b q Exif last).begins
    exif_begins f = subst (λ (o : Option SegmentKind). MatchOption o (t ≡ true) (λ (n : SegmentKind). t ≡ (piece_of b q n last).begins)) f m

    pub walk_begins : t ≡ true → Walked b (q.start + q.size) at k
    walk_begins u = record {
      parts = w.parts ++ q ∷ [];
      before = w.parts;
      after = next_after b at y q e h v w.parts w.after l;
      kind = kind_is;
      block = λ f. (w.after, begins_there f (sym (exif_begins f) ∙ u));
    }

    pub walk_continues : t ≡ false → Walked b (q.start + q.size) begun k
    walk_continues u = record {
      parts = w.parts ++ q ∷ [];
      before = w.before;
      after = next_after b at y q e h v w.parts w.after l;
      kind = kind_is;
      block = λ f.
          let g : (piece_of b q Exif last).begins ≡ false = sym (exif_begins f) ∙ u in
          let o = w.block (later_exif b q last g) in
          (o.0, continues_there f g o.1);
    }

-- ---- the end of the walk

after_begins : (b : List ℕ) (ps : List Part) (rest : List ℕ) (p : ℕ) → SplitAt b ps rest p → HasFront b ps
after_begins b ps rest p r = inr (record { encoded = r.front; rest = rest; whole = r.whole; encodes = r.encodes })

-- the parts of the bytes before an offset
taken : (b : List ℕ) (ps : List Part) (rest : List ℕ) (p : ℕ) → SplitAt b ps rest p → front (take p b) ≡ ps
taken b ps rest p r =
    let l : length (255 ∷ 216 ∷ r.front) ≡ p = omega (arith, r.place) in
    ap front (ap (take p) r.whole ∙ take_at (255 ∷ 216 ∷ r.front) rest p l ∙ ap (λ (x : List ℕ). 255 ∷ 216 ∷ x) (sym (append-nil r.front)))
    ∙ front_after (r.front ++ []) ∙ front_encoded ps 2 r.front [] r.encodes r.before
    ∙ ap (λ (qs : List Part). ps ++ qs) (front_nil (2 + length r.front)) ∙ append-nil ps

encodes_end : (ps : List Part) (p : ℕ) (q : Part) (x : List ℕ) → Encodes p (ps ++ q ∷ []) x → q.start + q.size ≡ p + length x
encodes_end [] p q x (a, c, w, i, s) =
    omega (arith, part_end p q a i, ap (λ (z : List ℕ). length z) w, length-append a c, ap (λ (z : List ℕ). length z) s)
encodes_end (r ∷ ps) p q x (a, c, w, i, s) =
    omega (arith, encodes_end ps (p + length a) q c s, ap (λ (z : List ℕ). length z) w, length-append a c)

head_taken : (b : List ℕ) (qs : List Part) (n : ℕ) (s : HasHead b qs) → 2 + length s.encoded ≡ n → front (take n b) ≡ qs
head_taken b qs n s l =
    ap front (ap (take n) s.whole ∙ take_at (255 ∷ 216 ∷ s.encoded) s.rest n (omega (arith, l))
    ∙ ap (λ (x : List ℕ). 255 ∷ 216 ∷ x) (sym (append-nil s.encoded)))
    ∙ front_after (s.encoded ++ []) ∙ front_ends qs 2 s.encoded [] s.encodes s.ends

-- these parts end
pub record Ending (b : List ℕ) (n : ℕ) : Type 0 where
  pub ended : IsEnded b (front (take n b))
  pub front : HasFront b (front (take n b))

ending : (b : List ℕ) (n : ℕ) (ps : List Part) → front (take n b) ≡ ps → IsEnded b ps → HasFront b ps → Ending b n
ending b n ps e i h = record {
  ended = subst (IsEnded b) (sym e) i;
  front = subst (HasFront b) (sym e) h;
}

-- the last part of the head is at offset `at`
module _ (b : List ℕ) (at begun : ℕ) (last : Option SegmentKind) (w : Walked b at begun last) (y : List ℕ) (q : Part) (e : y ≡ drop at b)
    (h : is_part y ≡ true) (v : q ≡ part at y) where
  pub head_ends : is_last q.code ≡ true → Ending b (q.start + q.size)
  head_ends l =
      let s = means_head b at y q e h v w.parts w.after l in
      let qs : List Part = w.parts ++ q ∷ [] in
      ending b (q.start + q.size) qs (head_taken b qs (q.start + q.size) s (sym (encodes_end w.parts 2 q s.encoded s.encodes)))
      (record {
        head = λ whole t. one_head b qs whole s t;
        fault = λ c p f. absurd (fault_excludes b c p qs f s);
      }) (inr (record { encoded = s.encoded; rest = s.rest; whole = s.whole; encodes = s.encodes }))

fault_of : (b : List ℕ) (ps : List Part) (rest : List ℕ) (c : HeadCause) (p : ℕ) → SplitAt b ps rest p → FaultAt c rest
    → HasHeadFault b c p × FaultAfter b ps c p
fault_of b ps rest NoStart p r f = absurd f
fault_of b ps rest NoMarker p r f = ((ps, rest, r, f), (rest, r, f))
fault_of b ps rest LengthForm p r f = ((ps, rest, r, f), (rest, r, f))
fault_of b ps rest HeadCut p r f = ((ps, rest, r, f), (rest, r, f))

-- the fault is at offset `at`
ended_there : (b : List ℕ) (ps qs : List Part) (c : HeadCause) (p : ℕ) → HasHeadFault b c p → FaultAfter b ps c p → AreEnded b ps (drop p b) qs
    → IsEnded b qs
ended_there b ps qs c p f g a = record {
  head = λ whole s. absurd (fault_excludes b c p whole f s);
  fault = λ d r k.
      let (same, there) = one_fault b c d p r f k in (
        ps,
        subst (λ (z : ℕ). FaultAfter b ps d z) there (subst (λ (z : HeadCause). FaultAfter b ps z p) same g),
        subst (λ (z : ℕ). AreEnded b ps (drop z b) qs) there a,
      );
}

module _ (b : List ℕ) (at begun : ℕ) (last : Option SegmentKind) (w : Walked b at begun last) (y : List ℕ) (e : y ≡ drop at b) (c : HeadCause)
    (f : FaultAt c y) where
  there : HasHeadFault b c at × FaultAfter b w.parts c at
  there = fault_of b w.parts (drop at b) c at w.after (subst (FaultAt c) e f)

  pub closed_ends : ((last ≡ Some Exif) × MayContinue y → ⊥) → Ending b at
  closed_ends n =
      ending b at w.parts (taken b w.parts (drop at b) at w.after)
      (ended_there b w.parts w.parts c at there.0 there.1
      (inl (λ o. n (w.kind ∙ o.0, subst MayContinue (sym e) o.1), refl)))
      (after_begins b w.parts (drop at b) at w.after)

  pub open_ends : (last ≡ Some Exif) × MayContinue y → Ending b begun
  open_ends o =
      let (r, l) = w.block o.0 in
      ending b begun w.before (taken b w.before (drop begun b) begun r)
      (ended_there b w.parts w.before c at there.0 there.1 (inr ((sym w.kind ∙ o.0, subst MayContinue e o.1), l)))
      (after_begins b w.before (drop begun b) begun r)
