-- A picture has no more blocks than bytes.
use Rattle.std.proofs.Common.{◌≡◌, ◌≤◌, ◌<◌, ◌+◌, ◌^◌, ℕ, zero, suc, Bool, true, false, cond, inl, inr, Option, Some, None}
use Rattle.std.proofs.Common.{List, [], ◌∷◌, ◌++◌, length, drop}
use Rattle.std.proofs.Common.{refl, ap, arith, length-append}
use Rattle.std.specs.List.{cons_option}
use Rattle.std.specs.Prelude.{filter, filter_map, flat_map}
use Rattle.std.proofs.lemmas.Bool.{cond-true, cond-false, cases_Bool}
use Rattle.px_jpeg.specs.declared.Part.{Part}
use Rattle.px_jpeg.specs.declared.SegmentKind.{SegmentKind}
use Rattle.px_jpeg.specs.declared.SegmentKind.TheVariants.{Exif, Photoshop, Xmp, ExtendedXmp}
use Rattle.px_jpeg.specs.declared.Piece.{Piece}
use Rattle.px_jpeg.specs.Front.{HasFront}
use Rattle.px_jpeg.specs.Head.{Encodes}
use Rattle.px_jpeg.specs.Pieces.{range, segment_kind, piece_in, pieces}
use Rattle.px_jpeg.specs.Blocks.{JoinedBlock, piece_octets, joined, exif_in, exif_blocks, iptc_blocks, blocks}
use Rattle.px_jpeg.specs.ResourceReading.{is_resource, resource, step, resources_of, resources_from}
use Rattle.px_pictures.specs.Metadata.{Blocks, HasBlocks, has_octets}
use Rattle.px_pictures.specs.calls.Judging.{IsFew}
use Rattle.px_pictures.specs.calls.Runs.{iptc_at, records_in}
use Rattle.px_pictures.proofs.Cutting.{joined_begins, joined_continues, sizes_of}
use Rattle.px_pictures.proofs.Inside.{head_front, front_inside, front_within}
use Rattle.px_pictures.proofs.Records.{records_all}

-- ---- lists

consed : {Y : Type 0} (o : Option Y) (ys : List Y) → length (cons_option o ys) ≤ suc (length ys)
consed None ys = omega arith
consed (Some y) ys = omega arith

mapped : {X Y : Type 0} (f : X → Option Y) (xs : List X) → length (filter_map f xs) ≤ length xs
mapped f [] = omega arith
mapped f (x ∷ xs) = omega (arith, consed (f x) (filter_map f xs), mapped f xs)

chosen : {X : Type 0} (b : Bool) (x : X) (xs : List X) → length (cond b (x ∷ xs) xs) ≤ suc (length xs)
chosen true x xs = omega arith
chosen false x xs = omega arith

filtered : {X : Type 0} (f : X → Bool) (xs : List X) → length (filter f xs) ≤ length xs
filtered f [] = omega arith
filtered f (x ∷ xs) = omega (arith, chosen (f x) x (filter f xs), filtered f xs)

-- ---- Exif

joined_fewer : (b : List ℕ) (ps : List Piece) → length (joined b ps).1 ≤ length ps
unfolding joined
joined_fewer b [] = omega arith
joined_fewer b (p ∷ ps) = elim (cases_Bool p.begins) [
  | inl t ↦ omega (arith, joined_fewer b ps, ap (λ (j : List ℕ × List JoinedBlock). length j.1) (joined_begins b p ps t))
  | inr f ↦ omega (arith, joined_fewer b ps, ap (λ (j : List ℕ × List JoinedBlock). length j.1) (joined_continues b p ps f))
]

piece_fewer : (b : List ℕ) (q : Part) (last o : Option SegmentKind) → length (piece_in b q last o) ≤ 1
piece_fewer b q last None = omega arith
piece_fewer b q last (Some k) = omega arith

pieces_fewer : (b : List ℕ) (last : Option SegmentKind) (qs : List Part) → length (pieces b last qs) ≤ length qs
pieces_fewer b last [] = omega arith
pieces_fewer b last (q ∷ qs) =
    let o : Option SegmentKind = segment_kind q.code (range b q.start q.size) in
    omega (arith, piece_fewer b q last o, pieces_fewer b o qs, length-append (piece_in b q last o) (pieces b o qs))

parts_fewer : (p : ℕ) (qs : List Part) (x : List ℕ) → Encodes p qs x → length qs ≤ length x
parts_fewer p [] x s = omega arith
parts_fewer p (q ∷ qs) x (a, b, w, inl i, s) =
    omega (
      arith,
      parts_fewer (p + length a) qs b s,
      ap length w,
      length-append a b,
      ap length i.whole,
      length-append i.fill (255 ∷ q.code ∷ []),
    )
parts_fewer p (q ∷ qs) x (a, b, w, inr i, s) =
    omega (
      arith,
      parts_fewer (p + length a) qs b s,
      ap length w,
      length-append a b,
      ap length i.whole,
      length-append i.fill (255 ∷ q.code ∷ i.high ∷ i.low ∷ i.octets),
    )

pub blocks_few : (b : List ℕ) (parts : List Part) → HasFront b parts → length (blocks b parts) ≤ length b
blocks_few b parts (inl e) =
    omega (arith, joined_fewer b (pieces b None parts), pieces_fewer b None parts, ap (λ (ps : List Part). length ps) e)
blocks_few b parts (inr h) =
    omega (
      arith,
      joined_fewer b (pieces b None parts),
      pieces_fewer b None parts,
      parts_fewer 2 parts h.encoded h.encodes,
      ap length h.whole,
      length-append h.encoded h.rest,
    )

exif_few : (b : List ℕ) (parts : List Part) → HasFront b parts → length (exif_blocks b parts) ≤ length b
exif_few b parts h =
    omega (arith, mapped exif_in (blocks b parts), blocks_few b parts h)

-- ---- IPTC

resources_fewer : (n p : ℕ) (x : List ℕ) → length (resources_from n p x) ≤ n
unfolding resources_from
resources_fewer zero p x = omega arith
resources_fewer (suc n) p x = elim (cases_Bool (is_resource x)) [
  | inl t ↦
      rw (cond-true (is_resource x) (resource p x ∷ resources_from n (p + step x) (drop (step x) x)) [] t)
      (omega (arith, resources_fewer n (p + step x) (drop (step x) x)))
  | inr f ↦ rw (cond-false (is_resource x) (resource p x ∷ resources_from n (p + step x) (drop (step x) x)) [] f) (omega arith)
]

records_fewer : (k : SegmentKind) (x : List ℕ) → length (records_in (record { kind = k; octets = x })) ≤ length x
unfolding resources_of
records_fewer Exif x = omega arith
records_fewer Photoshop x =
    omega (
      arith,
      filtered has_octets (filter_map (iptc_at x) (resources_of 0 x)),
      mapped (iptc_at x) (resources_of 0 x),
      resources_fewer (length x) 0 x,
    )
records_fewer Xmp x = omega arith
records_fewer ExtendedXmp x = omega arith

all_fewer : (ks : List JoinedBlock) → length (flat_map records_in ks) ≤ length (flat_map (λ (k : JoinedBlock). k.octets) ks)
all_fewer [] = omega arith
all_fewer (k ∷ ks) =
    omega (
      arith,
      records_fewer k.kind k.octets,
      all_fewer ks,
      length-append (records_in k) (flat_map records_in ks),
      length-append k.octets (flat_map (λ (k : JoinedBlock). k.octets) ks),
    )

joined_octets : (b : List ℕ) (ps : List Piece)
    → length (joined b ps).0 + length (flat_map (λ (k : JoinedBlock). k.octets) (joined b ps).1) ≡ length (flat_map (piece_octets b) ps)
unfolding joined
joined_octets b [] = refl
joined_octets b (p ∷ ps) = elim (cases_Bool p.begins) [
  | inl t ↦
      omega (
        arith,
        joined_octets b ps,
        ap (λ (j : List ℕ × List JoinedBlock). length j.0 + length (flat_map (λ (k : JoinedBlock). k.octets) j.1)) (joined_begins b p ps t),
        length-append (piece_octets b p) (joined b ps).0,
        length-append (piece_octets b p) (flat_map (piece_octets b) ps),
        length-append (piece_octets b p ++ (joined b ps).0) (flat_map (λ (k : JoinedBlock). k.octets) (joined b ps).1),
      )
  | inr f ↦
      omega (
        arith,
        joined_octets b ps,
        ap (λ (j : List ℕ × List JoinedBlock). length j.0 + length (flat_map (λ (k : JoinedBlock). k.octets) j.1)) (joined_continues b p ps f),
        length-append (piece_octets b p) (joined b ps).0,
        length-append (piece_octets b p) (flat_map (piece_octets b) ps),
      )
]

iptc_few : (b : List ℕ) (parts : List Part) → HasFront b parts → length (filter has_octets (iptc_blocks b parts)) ≤ length b
iptc_few b parts h =
    omega (
      arith,
      ap length (records_all (blocks b parts)),
      all_fewer (blocks b parts),
      joined_octets b (pieces b None parts),
      sizes_of b parts (front_inside b parts h),
      front_within b parts h,
    )

pub has_few : (b : List ℕ) (x : Blocks) → HasBlocks b x → length b < 2 ^ 63 → IsFew x
has_few b x h l = (
  omega (arith, exif_few b h.parts (head_front b h.parts h.head), ap (λ (y : Blocks). length y.exif) h.blocks),
  omega (arith, iptc_few b h.parts (head_front b h.parts h.head), ap (λ (y : Blocks). length y.iptc) h.blocks),
)
