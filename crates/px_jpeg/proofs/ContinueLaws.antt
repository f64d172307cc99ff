-- Bytes that are no part, and whether more bytes make them one that continues the Exif of the part before it.
use Rattle.std.proofs.Common.{◌≡◌, ◌≢◌, ◌≤◌, ◌<◌, ◌+◌, ◌-◌, ◌*◌, ℕ, zero, suc, Bool, true, false, inl, inr, Option, Some, None}
use Rattle.std.proofs.Common.{List, [], ◌∷◌, ◌++◌, length, take, drop, refl, sym, ap, ap₂, ◌∙◌, arith, if◌then◌else◌}
use Rattle.std.proofs.Common.{length-append, length-drop, append_assoc, drop_at}
use Rattle.std.proofs.Math.ListN.{replicate}
use Rattle.std.proofs.Math.Seq.{take-length, take_all}
use Rattle.std.proofs.lemmas.Bool.{cond-true, cond-false, cases_Bool, cases_lt, both_ways}
use Rattle.std.proofs.lemmas.List.{drop-drop, length-replicate}
use Rattle.std.specs.List.{AllByRecursion}
use Rattle.px_jpeg.specs.declared.parts.Part.{Part}
use Rattle.px_jpeg.specs.declared.pieces.SegmentKind.{SegmentKind}
use Rattle.px_jpeg.specs.declared.pieces.SegmentKind.TheVariants.{Exif, Photoshop, Xmp, ExtendedXmp}
use Rattle.px_jpeg.specs.declared.pieces.Piece.{Piece}
use Rattle.px_jpeg.specs.Head.{AreFill, stands_alone, IsPart}
use Rattle.px_jpeg.specs.Front.{MayContinue}
use Rattle.px_jpeg.specs.Reading.{marks, code_of, count, is_part}
use Rattle.px_jpeg.specs.Pieces.{exif_mark, is_exif, is_photoshop, is_xmp, is_extended, segment_kind, is_header, range, piece_of, piece_in, pieces}
use Rattle.px_jpeg.specs.calls.Later.{MayBeLater}
use Rattle.px_jpeg.proofs.HeadLaws.{after_open}
use Rattle.px_jpeg.proofs.LaterLaws.{exif_front, exif_back, header_ones, ones_bytes, all_append, mark_bytes}
use Rattle.px_jpeg.proofs.Marks.{marks_other}
use Rattle.px_jpeg.proofs.OnePart.{found_nothing, found_other, found_segment, fill_coded, coded_whole, coded_other, opened_marks}

-- ---- what continues a block of Exif

-- the bytes x are a segment of Exif without a header
pub record Continues (x : List ℕ) : Type 0 where
  pub fill : List ℕ
  pub high : ℕ
  pub low : ℕ
  pub octets : List ℕ
  pub filled : AreFill fill
  pub whole : x ≡ fill ++ 255 ∷ 225 ∷ high ∷ low ∷ octets
  pub counted : 256 * high + low ≡ 2 + length octets
  pub exif : is_exif 225 octets ≡ true
  pub later : is_header (drop 6 octets) ≡ false

other_kinds : (p q r : Bool) → (if p then Some Photoshop else if q then Some Xmp else if r then Some ExtendedXmp else None) ≡ Some Exif → ⊥
other_kinds true q r e = cc
other_kinds false true r e = cc
other_kinds false false true e = cc
other_kinds false false false e = cc

pub kind_exif : (c : ℕ) (x : List ℕ) → segment_kind c x ≡ Some Exif → is_exif c x ≡ true
unfolding segment_kind
kind_exif c x h = elim (cases_Bool (is_exif c x)) [
  | inl t ↦ t
  | inr f ↦ absurd (other_kinds (is_photoshop c x) (is_xmp c x) (is_extended c x) (sym (cond-false (is_exif c x) _ _ f) ∙ h))
]

exif_kind : (c : ℕ) (x : List ℕ) → is_exif c x ≡ true → segment_kind c x ≡ Some Exif
unfolding segment_kind
exif_kind c x h = cond-true (is_exif c x) _ _ h

continuing : (b : List ℕ) (q : Part) (o : Option SegmentKind) (p : Piece) → piece_in b q (Some Exif) o ++ [] ≡ p ∷ [] → p.begins ≡ false
    → (o ≡ Some Exif) × (is_header (range b (q.start + 6) (q.size - 6)) ≡ false)
continuing b q None p e f = let clash : ◌≡◌ {A = List Piece} [] (p ∷ []) = e in absurd (cc)
continuing b q (Some Exif) p e f =
    let first : piece_of b q Exif (Some Exif) ≡ p = cc in (refl, ap (λ (r : Piece). r.begins) first ∙ f)
continuing b q (Some Photoshop) p e f =
    let first : piece_of b q Photoshop (Some Exif) ≡ p = cc in
    let clash : true ≡ false = ap (λ (r : Piece). r.begins) first ∙ f in absurd (cc)
continuing b q (Some Xmp) p e f =
    let first : piece_of b q Xmp (Some Exif) ≡ p = cc in
    let clash : true ≡ false = ap (λ (r : Piece). r.begins) first ∙ f in absurd (cc)
continuing b q (Some ExtendedXmp) p e f =
    let first : piece_of b q ExtendedXmp (Some Exif) ≡ p = cc in
    let clash : true ≡ false = ap (λ (r : Piece). r.begins) first ∙ f in absurd (cc)

-- the data of a segment
module _ (z fill : List ℕ) (c h l : ℕ) (octets : List ℕ) (w : z ≡ fill ++ 255 ∷ c ∷ h ∷ l ∷ octets) where
  pub data_at : drop (length fill + 4) z ≡ octets
  data_at =
      ap (drop (length fill + 4)) (w ∙ sym (append_assoc fill (255 ∷ c ∷ h ∷ l ∷ []) octets))
      ∙ drop_at (fill ++ 255 ∷ c ∷ h ∷ l ∷ []) octets (length fill + 4) (length-append fill (255 ∷ c ∷ h ∷ l ∷ []))

  data_range : (n : ℕ) → n ≡ length octets → range z (length fill + 4) n ≡ octets
  data_range n e = ap₂ (λ (k : ℕ) (y : List ℕ). take k y) e data_at ∙ take-length octets

  mark_range : (n : ℕ) → n ≡ length octets → range z (length fill + 4 + 6) (n - 6) ≡ drop 6 octets
  mark_range n e =
      ap (take (n - 6)) (sym (drop-drop 6 (length fill + 4) z) ∙ ap (drop 6) data_at)
      ∙ take_all (n - 6) (drop 6 octets) (omega (arith, length-drop 6 octets))

continues_if : (z : List ℕ) (q : Part) (p : Piece) → IsPart 0 q z → pieces z (Some Exif) (q ∷ []) ≡ p ∷ [] → p.begins ≡ false
    → Continues z
continues_if z q p (inl a) e f =
    let k = continuing z q (segment_kind q.code (range z q.start q.size)) p e f in
    let code = (exif_front q.code (range z q.start q.size) (kind_exif q.code (range z q.start q.size) k.0)).0 in
    let clash : false ≡ true = ap stands_alone (sym code) ∙ a.alone in absurd (cc)
continues_if z q p (inr s) e f =
    let k = continuing z q (segment_kind q.code (range z q.start q.size)) p e f in
    let exif = kind_exif q.code (range z q.start q.size) k.0 in
    let code = (exif_front q.code (range z q.start q.size) exif).0 in
    let start : q.start ≡ length s.fill + 4 = omega (arith, s.start) in
    let all : range z q.start q.size ≡ s.octets =
    ap (λ (n : ℕ). range z n q.size) start ∙ data_range z s.fill q.code s.high s.low s.octets s.whole q.size s.size in
    record {
      fill = s.fill;
      high = s.high;
      low = s.low;
      octets = s.octets;
      filled = s.filled;
      whole = s.whole ∙ ap (λ (c : ℕ). s.fill ++ 255 ∷ c ∷ s.high ∷ s.low ∷ s.octets) code;
      counted = s.counted;
      exif = ap₂ is_exif (sym code) (sym all) ∙ exif;
      later =
          ap is_header (sym (ap (λ (n : ℕ). range z (n + 6) (q.size - 6)) start
          ∙ mark_range z s.fill q.code s.high s.low s.octets s.whole q.size s.size)) ∙ k.1;
    }

continues_of : (x : List ℕ) (m : MayContinue x) → Continues (x ++ m.more)
continues_of x m = continues_if (x ++ m.more) m.part m.piece m.whole m.contains m.continues

pub continues_by : (x more : List ℕ) → AllByRecursion (λ o. o < 256) more → Continues (x ++ more) → MayContinue x
continues_by x more bytes r =
    let z : List ℕ = x ++ more in
    let q : Part = record { code = 225; start = length r.fill + 4; size = length r.octets } in
    let all : range z q.start q.size ≡ r.octets = data_range z r.fill 225 r.high r.low r.octets r.whole q.size refl in
    record {
      more = more;
      octets = bytes;
      part = q;
      piece = piece_of z q Exif (Some Exif);
      whole = inr (record {
        fill = r.fill;
        high = r.high;
        low = r.low;
        octets = r.octets;
        filled = r.filled;
        marker = (λ h. absurd (omega arith), λ h. absurd (omega arith));
        segment = refl;
        whole = r.whole;
        counted = r.counted;
        start = omega arith;
        size = refl;
      });
      contains = ap (λ (o : Option SegmentKind). piece_in z q (Some Exif) o ++ [])
          (exif_kind 225 (range z q.start q.size) (ap (is_exif 225) all ∙ r.exif));
      continues = ap is_header (mark_range z r.fill 225 r.high r.low r.octets r.whole q.size refl) ∙ r.later;
    }

-- ---- from the bytes that are there

-- nothing, or only bytes FF
pub empty_continues : (x y : List ℕ) (n : ℕ) → n ≡ marks x → y ≡ drop n x → length y ≡ 0 → MayContinue x
empty_continues x y n m e l =
    continues_by x (255 ∷ 225 ∷ 0 ∷ 8 ∷ exif_mark)
    (omega arith, (omega arith, (omega arith, (omega arith, mark_bytes)))) (record {
      fill = x;
      high = 0;
      low = 8;
      octets = exif_mark;
      filled = found_nothing x y n m e l;
      whole = refl;
      counted = refl;
      exif = exif_back exif_mark [] refl;
      later = header_ones [] 0 (omega arith);
    })

-- another byte than FF
pub other_stops : (x : List ℕ) → 0 ≡ marks x → 1 ≤ length x → MayContinue x → ⊥
other_stops x m l c =
    let (o, w, e, k) = found_other x m l in
    let r = continues_of x c in
    let none : marks (x ++ c.more) ≡ 0 = ap (λ (y : List ℕ). marks (y ++ c.more)) e ∙ marks_other o (w ++ c.more) k in
    let some : marks (x ++ c.more) ≡ length r.fill + 1 =
    ap marks r.whole ∙ opened_marks r.fill 225 (r.high ∷ r.low ∷ r.octets) r.filled (λ h. absurd (omega arith)) in
    omega arith

-- a marker's code c after bytes FF, and then w
module _ (x : List ℕ) (k c : ℕ) (w : List ℕ) (m : marks x ≡ suc k) (e : drop (suc k) x ≡ c ∷ w) where
  coded : (more : List ℕ) → x ++ more ≡ (fill_coded x k c w m e).fill ++ 255 ∷ c ∷ (w ++ more)
  coded more =
      ap (λ (y : List ℕ). y ++ more) (coded_whole x k c w m e)
      ∙ append_assoc (fill_coded x k c w m e).fill (255 ∷ c ∷ w) more

  code_after : (more : List ℕ) (r : Continues (x ++ more)) → c ∷ (w ++ more) ≡ 225 ∷ r.high ∷ r.low ∷ r.octets
  code_after more r =
      sym (after_open (x ++ more) (fill_coded x k c w m e).fill c (w ++ more) (fill_coded x k c w m e).filled
      (coded_other x k c w m e) (coded more))
      ∙ after_open (x ++ more) r.fill 225 (r.high ∷ r.low ∷ r.octets) r.filled (λ h. absurd (omega arith)) r.whole

  code_stops : c ≢ 225 → MayContinue x → ⊥
  code_stops n d =
      let r = continues_of x d in
      let same = code_after d.more r in
      n (cc)

  -- with these bytes more
  code_continues : (more : List ℕ) → c ≡ 225 → AllByRecursion (λ o. o < 256) more → (h l : ℕ) (octets : List ℕ)
      → w ++ more ≡ h ∷ l ∷ octets → 256 * h + l ≡ 2 + length octets → is_exif 225 octets ≡ true → is_header (drop 6 octets) ≡ false
      → MayContinue x
  code_continues more s bytes h l octets v n t f =
      continues_by x more bytes (record {
        fill = (fill_coded x k c w m e).fill;
        high = h;
        low = l;
        octets = octets;
        filled = (fill_coded x k c w m e).filled;
        whole = coded more ∙ ap₂ (λ (d : ℕ) (y : List ℕ). (fill_coded x k c w m e).fill ++ 255 ∷ d ∷ y) s v;
        counted = n;
        exif = t;
        later = f;
      })

short_at : (x : List ℕ) (k c : ℕ) (w : List ℕ) → marks x ≡ suc k → drop (suc k) x ≡ c ∷ w → c ≡ 225 → length w < 2 → MayContinue x
short_at x k c [] m e s l =
    code_continues x k c [] m e (0 ∷ 8 ∷ exif_mark) s (omega arith, (omega arith, mark_bytes)) 0 8 exif_mark refl refl
    (exif_back exif_mark [] refl) (header_ones [] 0 (omega arith))
short_at x k c (h ∷ []) m e s l =
    let ones : List ℕ = replicate (256 * h) 1 in
    code_continues x k c (h ∷ []) m e (8 ∷ (exif_mark ++ ones)) s
    (omega arith, all_append exif_mark ones mark_bytes (ones_bytes (256 * h))) h 8 (exif_mark ++ ones) refl
    (omega (arith, length-append exif_mark ones, length-replicate {A = ℕ} (256 * h) 1))
    (exif_back (exif_mark ++ ones) ones refl) (header_ones [] (256 * h) (omega arith))
short_at x k c (h ∷ j ∷ w) m e s l = absurd (omega arith)

later_at : (x : List ℕ) (k c h l : ℕ) (w : List ℕ) → marks x ≡ suc k → drop (suc k) x ≡ c ∷ h ∷ l ∷ w → c ≡ 225 → 2 ≤ 256 * h + l
    → MayBeLater (256 * h + l - 2) w → MayContinue x
later_at x k c h l w m e s t b =
    code_continues x k c (h ∷ l ∷ w) m e b.more s b.octets h l (w ++ b.more) refl
    (omega (arith, b.counted, length-append w b.more)) b.exif b.later

at_later : (x : List ℕ) (k c h l : ℕ) (w : List ℕ) → marks x ≡ suc k → drop (suc k) x ≡ c ∷ h ∷ l ∷ w → MayContinue x
    → (2 ≤ 256 * h + l) × MayBeLater (256 * h + l - 2) w
at_later x k c h l w m e d =
    let r = continues_of x d in
    let same : c ∷ h ∷ l ∷ (w ++ d.more) ≡ 225 ∷ r.high ∷ r.low ∷ r.octets = code_after x k c (h ∷ l ∷ w) m e d.more r in
    let high : h ≡ r.high = cc in
    let low : l ≡ r.low = cc in
    let octets : w ++ d.more ≡ r.octets = cc in
    let n = r.counted in
    let long = ap (λ (y : List ℕ). length y) octets in (
      omega arith,
      record {
        more = d.more;
        octets = d.octets;
        counted = omega (arith, length-append w d.more);
        exif = ap (is_exif 225) octets ∙ r.exif;
        later = ap (λ (y : List ℕ). is_header (drop 6 y)) octets ∙ r.later;
      },
    )

-- ---- the same of what the code finds

module _ (x : List ℕ) where
  pub code_other : (y : List ℕ) (n : ℕ) → n ≡ marks x → y ≡ drop n x → 1 ≤ n → 1 ≤ length y → code_of y ≢ 225 → MayContinue x → ⊥
  code_other y zero m e k l d h = omega arith
  code_other [] (suc n) m e k l d h = omega arith
  code_other (c ∷ w) (suc n) m e k l d h = code_stops x n c w (sym m) (sym e) d h

  pub code_short : (y : List ℕ) (n : ℕ) → n ≡ marks x → y ≡ drop n x → 1 ≤ n → 1 ≤ length y → code_of y ≡ 225 → length y < 3 → MayContinue x
  code_short y zero m e k l d h = absurd (omega arith)
  code_short [] (suc n) m e k l d h = absurd (omega arith)
  code_short (c ∷ w) (suc n) m e k l d h = short_at x n c w (sym m) (sym e) d (omega arith)

  pub code_later : (y : List ℕ) (n : ℕ) → n ≡ marks x → y ≡ drop n x → 1 ≤ n → code_of y ≡ 225 → 3 ≤ length y → 2 ≤ count y
      → MayBeLater (count y - 2) (drop 3 y) → MayContinue x
  code_later y zero m e k s l t b = absurd (omega arith)
  code_later [] (suc n) m e k s l t b = absurd (omega arith)
  code_later (c ∷ []) (suc n) m e k s l t b = absurd (omega arith)
  code_later (c ∷ h ∷ []) (suc n) m e k s l t b = absurd (omega arith)
  code_later (c ∷ h ∷ j ∷ w) (suc n) m e k s l t b = later_at x n c h j w (sym m) (sym e) s t b

  pub later_coded : (y : List ℕ) (n : ℕ) → n ≡ marks x → y ≡ drop n x → 1 ≤ n → 3 ≤ length y → MayContinue x
      → (2 ≤ count y) × MayBeLater (count y - 2) (drop 3 y)
  later_coded y zero m e k l d = absurd (omega arith)
  later_coded [] (suc n) m e k l d = absurd (omega arith)
  later_coded (c ∷ []) (suc n) m e k l d = absurd (omega arith)
  later_coded (c ∷ h ∷ []) (suc n) m e k l d = absurd (omega arith)
  later_coded (c ∷ h ∷ j ∷ w) (suc n) m e k l d = at_later x n c h j w (sym m) (sym e) d

  -- of what is no part, fewer bytes are there than the segment's length says
  pub cut_short : (y : List ℕ) (n : ℕ) → n ≡ marks x → y ≡ drop n x → 1 ≤ n → code_of y ≡ 225 → 3 ≤ length y → 2 ≤ count y
      → is_part x ≡ false → length y < 1 + count y
  cut_short y n m e k s l t f = elim (cases_lt (length y) (1 + count y)) [
    | inl h ↦ h
    | inr h ↦
        absurd (both_ways (is_part x) f (found_segment 0 x y n m e k (λ z. omega arith)
        (ap stands_alone s) l t h).0)
  ]
