-- The packet of XMP is one segment's, and no other segment has XMP.
use Rattle.std.proofs.Common.{◌≡◌, ◌==◌, ◌≤◌, ◌+◌, ◌-◌, ℕ, true, false, if◌then◌else◌, inl, inr, Option, Some, None}
use Rattle.std.proofs.Common.{List, [], ◌∷◌, ◌++◌, length, take, drop, nat_eq, refl, sym, ap, ◌∙◌, subst, arith, eqb-true}
use Rattle.std.proofs.Common.{drop-drop, length-append, length-take}
use Rattle.std.proofs.lemmas.Bool.{cond-true, cond-false, cases_Bool, and_parts, and_left, ne_eqb}
use Rattle.std.proofs.lemmas.Bool.Decides.{Decides-eqb}
use Rattle.std.proofs.lemmas.List.{drop-take}
use Rattle.std.proofs.lemmas.Slice.Eq.{starts_is}
use Rattle.std.specs.List.{AllByRecursion, starts_with}
use Rattle.px_jpeg.specs.declared.packets.FoundXmp.{FoundXmp}
use Rattle.px_jpeg.specs.declared.packets.FoundXmp.TheVariants.{Absent, Packet, NotRead}
use Rattle.px_jpeg.specs.declared.parts.Part.{Part}
use Rattle.px_jpeg.specs.declared.pieces.SegmentKind.{SegmentKind}
use Rattle.px_jpeg.specs.declared.pieces.SegmentKind.TheVariants.{Exif, Photoshop, Xmp, ExtendedXmp}
use Rattle.px_jpeg.specs.declared.pieces.Piece.{Piece}
use Rattle.px_jpeg.specs.Pieces.{exif_mark, photoshop_mark, xmp_mark, is_exif, is_photoshop, is_xmp, is_extended, segment_kind, range, piece_of, piece_in, pieces}
use Rattle.px_jpeg.specs.Xmp.{is_packet, xmp_pieces, found_in}
use Rattle.px_jpeg.specs.Laws.{HasNoXmp, IsPacket, XmpStands}
use Rattle.px_jpeg.proofs.LaterLaws.{exif_front}

-- ---- what a kind says of a segment

abbrev Neither : ℕ → List ℕ → Type 0
Neither c x = (is_xmp c x ≡ false) × (is_extended c x ≡ false)

abbrev Says : ℕ → List ℕ → Option SegmentKind → Type 0
Says c x None = Neither c x
Says c x (Some Exif) = Neither c x
Says c x (Some Photoshop) = Neither c x
Says c x (Some Xmp) = (c ≡ 225) × (x ≡ xmp_mark ++ drop 29 x)
Says c x (Some ExtendedXmp) = c ≡ c

xmp_front : (c : ℕ) (x : List ℕ) → is_xmp c x ≡ true → (c ≡ 225) × (x ≡ xmp_mark ++ drop 29 x)
unfolding is_xmp
xmp_front c x h =
    let a = and_parts (c == 225) (starts_with nat_eq x xmp_mark) h in
    (eqb-true c 225 a.0, (starts_is Decides-eqb x xmp_mark (starts_with nat_eq x xmp_mark) refl).0 a.1)

exif_neither : (x rest : List ℕ) → x ≡ exif_mark ++ rest → Neither 225 x
unfolding is_xmp is_extended
exif_neither x rest e = (ap (is_xmp 225) e, ap (is_extended 225) e)

photoshop_neither : (c : ℕ) (x : List ℕ) → is_photoshop c x ≡ true → Neither c x
unfolding is_photoshop is_xmp is_extended
photoshop_neither c x h =
    let a = and_parts (c == 237) (starts_with nat_eq x photoshop_mark) h in
    let e = eqb-true c 237 a.0 in
    (and_left (c == 225) _ (ne_eqb c 225 (λ n. absurd (omega (arith, e, n)))), and_left (c == 225) _ (ne_eqb c 225 (λ n. absurd (omega (arith, e, n)))))

says : (c : ℕ) (x : List ℕ) → Says c x (segment_kind c x)
unfolding segment_kind
says c x = elim (cases_Bool (is_exif c x)) [
  | inl t ↦
      let (e, w) = exif_front c x t in
      subst (Says c x) (sym (cond-true (is_exif c x) _ _ t)) (subst (λ (n : ℕ). Neither n x) (sym e) (exif_neither x (drop 6 x) w))
  | inr f ↦ elim (cases_Bool (is_photoshop c x)) [
    | inl t ↦
        subst (Says c x) (sym (cond-false (is_exif c x) _ _ f ∙ cond-true (is_photoshop c x) _ _ t)) (photoshop_neither c x t)
    | inr g ↦ elim (cases_Bool (is_xmp c x)) [
      | inl t ↦
          subst (Says c x) (sym (cond-false (is_exif c x) _ _ f ∙ cond-false (is_photoshop c x) _ _ g ∙ cond-true (is_xmp c x) _ _ t))
          (xmp_front c x t)
      | inr h ↦ elim (cases_Bool (is_extended c x)) [
        | inl t ↦
            subst (Says c x)
            (sym (cond-false (is_exif c x) _ _ f ∙ cond-false (is_photoshop c x) _ _ g ∙ cond-false (is_xmp c x) _ _ h
            ∙ cond-true (is_extended c x) _ _ t)) refl
        | inr k ↦
            subst (Says c x)
            (sym (cond-false (is_exif c x) _ _ f ∙ cond-false (is_photoshop c x) _ _ g ∙ cond-false (is_xmp c x) _ _ h
            ∙ cond-false (is_extended c x) _ _ k)) (h, k)
      ]
    ]
  ]
]

-- ---- parts without XMP

nil_cons : {A : Type 0} (p : A) (ps : List A) → p ∷ ps ≡ [] → ⊥
nil_cons p ps e = absurd (omega (arith, ap length e))

none_there : (b : List ℕ) (last : Option SegmentKind) (parts : List Part) → xmp_pieces (pieces b last parts) ≡ []
    → AllByRecursion (HasNoXmp b) parts
none_there b last [] e = tt
none_there b last (q ∷ qs) e =
    of (segment_kind q.code (range b q.start q.size)) (says q.code (range b q.start q.size)) (λ k. none_there b k qs) e
  where
    of : (o : Option SegmentKind) → Says q.code (range b q.start q.size) o
        → ((k : Option SegmentKind) → xmp_pieces (pieces b k qs) ≡ [] → AllByRecursion (HasNoXmp b) qs)
        → xmp_pieces (piece_in b q last o ++ pieces b o qs) ≡ [] → AllByRecursion (HasNoXmp b) (q ∷ qs)
    of None f more h = (f, more None h)
    of (Some Exif) f more h = (f, more (Some Exif) h)
    of (Some Photoshop) f more h = (f, more (Some Photoshop) h)
    of (Some Xmp) f more h = absurd (nil_cons (piece_of b q Xmp last) (xmp_pieces (pieces b (Some Xmp) qs)) h)
    of (Some ExtendedXmp) f more h = absurd (nil_cons (piece_of b q ExtendedXmp last) (xmp_pieces (pieces b (Some ExtendedXmp) qs)) h)

-- ---- parts with one packet

abbrev Stands : List ℕ → List Part → ℕ → ℕ → Type 0
Stands b parts start size = (before : List Part) × (q : Part) × (after : List Part) × (parts ≡ before ++ q ∷ after) × IsPacket b q start size
    × AllByRecursion (HasNoXmp b) before × AllByRecursion (HasNoXmp b) after

stands_behind : (b : List ℕ) (q : Part) (qs : List Part) (start size : ℕ) → HasNoXmp b q → Stands b qs start size → Stands b (q ∷ qs) start size
stands_behind b q qs start size n (before, r, after, w, i, f, l) =
    (q ∷ before, r, after, ap (λ (ps : List Part). q ∷ ps) w, i, (n, f), l)

-- the bytes after a mark of so many
behind_mark : (b : List ℕ) (start size n : ℕ) → n ≤ size → drop n (range b start size) ≡ range b (start + n) (size - n)
behind_mark b start size n l =
    ap (λ (k : ℕ). drop n (take k (drop start b))) {x = size} {y = n + (size - n)} (omega arith)
    ∙ drop-take n (size - n) (drop start b)
    ∙ ap (take (size - n)) (drop-drop n start b)

packet_there : (b : List ℕ) (q : Part) → Says q.code (range b q.start q.size) (Some Xmp) → IsPacket b q (q.start + 29) (q.size - 29)
packet_there b q (c, w) =
    let x = range b q.start q.size in
    let m : length xmp_mark ≡ 29 = refl in
    let l : 29 ≤ q.size = omega (arith, ap length w, m, length-append xmp_mark (drop 29 x), length-take q.size (drop q.start b)) in
    (c, w ∙ ap (λ (y : List ℕ). xmp_mark ++ y) (behind_mark b q.start q.size 29 l))

abbrev head_or : Piece → List Piece → Piece
head_or d [] = d
head_or d (p ∷ ps) = p

abbrev tail : List Piece → List Piece
tail [] = []
tail (p ∷ ps) = ps

one_there : (b : List ℕ) (last : Option SegmentKind) (parts : List Part) (p : Piece) → xmp_pieces (pieces b last parts) ≡ p ∷ []
    → p.kind ≡ Xmp → Stands b parts p.start p.size
one_there b last [] p e k = absurd (nil_cons p [] (sym e))
one_there b last (q ∷ qs) p e k =
    of (segment_kind q.code (range b q.start q.size)) (says q.code (range b q.start q.size)) (λ o h. one_there b o qs p h k) e
  where
    of : (o : Option SegmentKind) → Says q.code (range b q.start q.size) o
        → ((o : Option SegmentKind) → xmp_pieces (pieces b o qs) ≡ p ∷ [] → Stands b qs p.start p.size)
        → xmp_pieces (piece_in b q last o ++ pieces b o qs) ≡ p ∷ [] → Stands b (q ∷ qs) p.start p.size
    of None f more h = stands_behind b q qs p.start p.size f (more None h)
    of (Some Exif) f more h = stands_behind b q qs p.start p.size f (more (Some Exif) h)
    of (Some Photoshop) f more h = stands_behind b q qs p.start p.size f (more (Some Photoshop) h)
    of (Some Xmp) f more h =
        subst (λ (r : Piece). Stands b (q ∷ qs) r.start r.size) {x = piece_of b q Xmp last} (ap (head_or p) h)
        ([], q, qs, refl, packet_there b q f, tt, none_there b (Some Xmp) qs (ap tail h))
    of (Some ExtendedXmp) f more h =
        let clash : ExtendedXmp ≡ Xmp = ap (λ (r : Piece). r.kind) {x = piece_of b q ExtendedXmp last} (ap (head_or p) h) ∙ k in absurd (cc)

-- ---- what is found

abbrev packet_start : FoundXmp → ℕ
packet_start (Packet start size) = start
packet_start other = 0

abbrev packet_size : FoundXmp → ℕ
packet_size (Packet start size) = size
packet_size other = 0

abbrev OnlyPacket : List Piece → ℕ → ℕ → Type 0
OnlyPacket ps start size = (p : Piece) × (ps ≡ p ∷ []) × (p.kind ≡ Xmp) × (p.start ≡ start) × (p.size ≡ size)

not_packet : (n start size : ℕ) → NotRead n ≡ Packet start size → ⊥
not_packet n start size e = absurd (cc)

found_packet : (ps : List Piece) (start size : ℕ) → found_in ps ≡ Packet start size → OnlyPacket ps start size
found_packet [] start size e = let clash : Absent ≡ Packet start size = e in absurd (cc)
found_packet (p ∷ []) start size e = of p.kind refl e
  where
    of : (k : SegmentKind) → p.kind ≡ k → (if is_packet k then Packet p.start p.size else NotRead p.start) ≡ Packet start size
        → OnlyPacket (p ∷ []) start size
    of Xmp w h = (p, refl, w, ap packet_start h, ap packet_size h)
    of Exif w h = absurd (not_packet p.start start size h)
    of Photoshop w h = absurd (not_packet p.start start size h)
    of ExtendedXmp w h = absurd (not_packet p.start start size h)
found_packet (p ∷ q ∷ ps) start size e = elim (cases_Bool (is_packet p.kind)) [
  | inl t ↦ absurd (not_packet q.start start size (sym (cond-true (is_packet p.kind) _ _ t) ∙ e))
  | inr f ↦ absurd (not_packet p.start start size (sym (cond-false (is_packet p.kind) _ _ f) ∙ e))
]

not_absent : (n : ℕ) → NotRead n ≡ Absent → ⊥
not_absent n e = absurd (cc)

found_absent : (ps : List Piece) → found_in ps ≡ Absent → ps ≡ []
found_absent [] e = refl
found_absent (p ∷ []) e = of p.kind e
  where
    of : (k : SegmentKind) → (if is_packet k then Packet p.start p.size else NotRead p.start) ≡ Absent → p ∷ [] ≡ []
    of Xmp h = let clash : Packet p.start p.size ≡ Absent = h in absurd (cc)
    of Exif h = absurd (not_absent p.start h)
    of Photoshop h = absurd (not_absent p.start h)
    of ExtendedXmp h = absurd (not_absent p.start h)
found_absent (p ∷ q ∷ ps) e = elim (cases_Bool (is_packet p.kind)) [
  | inl t ↦ absurd (not_absent q.start (sym (cond-true (is_packet p.kind) _ _ t) ∙ e))
  | inr f ↦ absurd (not_absent p.start (sym (cond-false (is_packet p.kind) _ _ f) ∙ e))
]

pub xmp_stands : XmpStands
xmp_stands = (
  (λ b parts start size e.
      let (p, w, k, s, n) = found_packet (xmp_pieces (pieces b None parts)) start size e in
      subst (λ (m : ℕ). Stands b parts start m) n (subst (λ (m : ℕ). Stands b parts m p.size) s (one_there b None parts p w k))),
  (λ b parts e. none_there b None parts (found_absent (xmp_pieces (pieces b None parts)) e)),
)
