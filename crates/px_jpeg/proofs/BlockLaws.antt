-- Blocks are their pieces, joined.
use Rattle.std.proofs.Common.{◌≡◌, ℕ, true, false, inl, inr, Option, Some, None, List, [], ◌∷◌, ◌++◌, refl, sym, ap, ◌∙◌}
use Rattle.std.proofs.Common.{append_assoc}
use Rattle.std.specs.Prelude.{flat_map}
use Rattle.std.proofs.lemmas.Bool.{cond-true, cond-false, cases_Bool}
use Rattle.px_jpeg.specs.declared.parts.Part.{Part}
use Rattle.px_jpeg.specs.declared.pieces.SegmentKind.{SegmentKind}
use Rattle.px_jpeg.specs.declared.pieces.SegmentKind.TheVariants.{Exif, Photoshop, Xmp, ExtendedXmp}
use Rattle.px_jpeg.specs.declared.pieces.Piece.{Piece}
use Rattle.px_jpeg.specs.Pieces.{range, segment_kind, begins, piece_of, piece_in, pieces}
use Rattle.px_jpeg.specs.Blocks.{JoinedBlock, piece_octets, joined}
use Rattle.px_jpeg.specs.Laws.{BlocksJoin}

pub joined_first : (b : List ℕ) (p : Piece) (ps : List Piece) → p.begins ≡ true
    → joined b (p ∷ ps) ≡ ([], record { kind = p.kind; octets = piece_octets b p ++ (joined b ps).0 } ∷ (joined b ps).1)
unfolding joined
joined_first b p ps h = cond-true p.begins _ _ h

pub joined_later : (b : List ℕ) (p : Piece) (ps : List Piece) → p.begins ≡ false
    → joined b (p ∷ ps) ≡ (piece_octets b p ++ (joined b ps).0, (joined b ps).1)
unfolding joined
joined_later b p ps h = cond-false p.begins _ _ h

abbrev all_octets : List ℕ × List JoinedBlock → List ℕ
all_octets j = j.0 ++ flat_map (λ (k : JoinedBlock). k.octets) j.1

joined_all : (b : List ℕ) (ps : List Piece) → all_octets (joined b ps) ≡ flat_map (piece_octets b) ps
unfolding joined
joined_all b [] = refl
joined_all b (p ∷ ps) = elim (cases_Bool p.begins) [
  | inl t ↦
      ap all_octets (joined_first b p ps t)
      ∙ append_assoc (piece_octets b p) (joined b ps).0 (flat_map (λ (k : JoinedBlock). k.octets) (joined b ps).1)
      ∙ ap (λ (x : List ℕ). piece_octets b p ++ x) (joined_all b ps)
  | inr f ↦
      ap all_octets (joined_later b p ps f)
      ∙ append_assoc (piece_octets b p) (joined b ps).0 (flat_map (λ (k : JoinedBlock). k.octets) (joined b ps).1)
      ∙ ap (λ (x : List ℕ). piece_octets b p ++ x) (joined_all b ps)
]

first_begins : (k : SegmentKind) (x : List ℕ) → begins k None x ≡ true
first_begins Exif x = refl
first_begins Photoshop x = refl
first_begins Xmp x = refl
first_begins ExtendedXmp x = refl

-- nothing stands before the first block
pub none_before : (b : List ℕ) (qs : List Part) → (joined b (pieces b None qs)).0 ≡ []
unfolding joined
none_before b [] = refl
none_before b (q ∷ qs) = of (none_before b qs) (segment_kind q.code (range b q.start q.size)) refl
  where
    of : (joined b (pieces b None qs)).0 ≡ [] → (o : Option SegmentKind) → segment_kind q.code (range b q.start q.size) ≡ o →
        (joined b (pieces b None (q ∷ qs))).0 ≡ []
    of h None e =
        ap (λ (o : Option SegmentKind). (joined b (piece_in b q None o ++ pieces b o qs)).0) e ∙ h
    of h (Some k) e =
        ap (λ (o : Option SegmentKind). (joined b (piece_in b q None o ++ pieces b o qs)).0) e
        ∙ ap (λ (j : List ℕ × List JoinedBlock). j.0) (joined_first b (piece_of b q k None) (pieces b (Some k) qs)
        (first_begins k (range b (piece_of b q k None).start (piece_of b q k None).size)))

pub blocks_join : BlocksJoin
blocks_join b parts =
    ap (λ (x : List ℕ). x ++ flat_map (λ (k : JoinedBlock). k.octets) (joined b (pieces b None parts)).1) (sym (none_before b parts))
    ∙ joined_all b (pieces b None parts)
