-- Blocks that are cut from a picture, and from the joined bytes of those that have more than one piece.
use Rattle.std.proofs.Common.{◌≡◌, ◌≤◌, ◌+◌, ℕ, Bool, true, false, ◌&&◌, inl, inr, Option, Some, None, List, [], ◌∷◌, ◌++◌, length}
use Rattle.std.proofs.Common.{take, drop, refl, sym, ap, ap₂, ◌∙◌, arith, length-append, length-drop, length-take, ◌-◌}
use Rattle.std.proofs.Common.{append_assoc, append-nil, subst}
use Rattle.std.specs.Prelude.{flat_map}
use Rattle.std.proofs.lemmas.Bool.{cond-true, cond-false, cases_Bool}
use Rattle.std.proofs.Math.Seq.{take-append_seam, drop-append_seam}
use Rattle.px_jpeg.specs.declared.Part.{Part}
use Rattle.px_jpeg.specs.declared.SegmentKind.{SegmentKind}
use Rattle.px_jpeg.specs.declared.SegmentKind.TheVariants.{Exif, Photoshop, Xmp, ExtendedXmp}
use Rattle.px_jpeg.specs.declared.Piece.{Piece}
use Rattle.px_jpeg.specs.Pieces.{AllInside, range, segment_kind, begins, mark_len, piece_in, pieces}
use Rattle.px_jpeg.specs.Blocks.{JoinedBlock, piece_octets, joined}
use Rattle.px_pictures.specs.Metadata.{sizes, next_begins, joined_pieces}
use Rattle.px_pictures.specs.calls.Runs.{AreSized, CanCut, joined_octets, run_size, run_rest}

-- ---- the pieces of some parts

ranged : (b : List ℕ) (start size mark : ℕ) → start + size ≤ length b → length (range b (start + mark) (size - mark)) ≡ size - mark
ranged b start size mark h = omega (arith, length-take (size - mark) (drop (start + mark) b), length-drop (start + mark) b)

sized : (b : List ℕ) (last : Option SegmentKind) (qs : List Part) → AllInside b qs → AreSized b (pieces b last qs)
sized b last [] h = tt
sized b last (q ∷ qs) h = of (segment_kind q.code (range b q.start q.size)) (λ l. sized b l qs h.1)
  where
    of : (o : Option SegmentKind) → ((l : Option SegmentKind) → AreSized b (pieces b l qs)) → AreSized b (piece_in b q last o ++ pieces b o qs)
    of None more = more None
    of (Some k) more = (ranged b q.start q.size (mark_len k) h.0, more (Some k))

pub pieces_sized : (b : List ℕ) (qs : List Part) → AllInside b qs → AreSized b (pieces b None qs)
pieces_sized b qs h = sized b None qs h

sizes_joined : (b : List ℕ) (ps : List Piece) → AreSized b ps → sizes ps ≡ length (flat_map (piece_octets b) ps)
sizes_joined b [] h = refl
sizes_joined b (p ∷ ps) h = omega (arith, h.0, sizes_joined b ps h.1, length-append (piece_octets b p) (flat_map (piece_octets b) ps))

pub sizes_of : (b : List ℕ) (parts : List Part) → AllInside b parts
    → sizes (pieces b None parts) ≡ length (flat_map (piece_octets b) (pieces b None parts))
sizes_of b parts h = sizes_joined b (pieces b None parts) (sized b None parts h)

kind_begins : (k : SegmentKind) (x : List ℕ) → begins k None x ≡ true
kind_begins Exif x = refl
kind_begins Photoshop x = refl
kind_begins Xmp x = refl
kind_begins ExtendedXmp x = refl

-- the first piece of a head begins a block
pub first_begins : (b : List ℕ) (qs : List Part) → next_begins (pieces b None qs) ≡ true
first_begins b [] = refl
first_begins b (q ∷ qs) = of (segment_kind q.code (range b q.start q.size)) (first_begins b qs)
  where
    of : (o : Option SegmentKind) → next_begins (pieces b None qs) ≡ true → next_begins (piece_in b q None o ++ pieces b o qs) ≡ true
    of None more = more
    of (Some k) more = kind_begins k (range b (q.start + mark_len k) (q.size - mark_len k))

pub front_cuts : (b x : List ℕ) (qs : List Part) (ps : List Piece) → AllInside b qs → x ≡ joined_octets b (pieces b None qs)
    → ps ≡ pieces b None qs → CanCut b x ps
front_cuts b x qs ps h j e = subst (CanCut b x) (sym e) (first_begins b qs, sized b None qs h, j)

-- ---- pieces that continue a block

pub run_ends : (ps : List Piece) → next_begins ps ≡ true → (run_size ps ≡ 0) × (run_rest ps ≡ ps)
unfolding run_size run_rest
run_ends [] t = (refl, refl)
run_ends (p ∷ ps) t = (cond-true p.begins 0 (p.size + run_size ps) t, cond-true p.begins (p ∷ ps) (run_rest ps) t)

pub run_goes : (ps qs : List Piece) (p : Piece) → ps ≡ p ∷ qs → next_begins ps ≡ false
    → (run_size ps ≡ p.size + run_size qs) × (run_rest ps ≡ run_rest qs)
unfolding run_size run_rest
run_goes ps qs p e f =
    let g : p.begins ≡ false = sym (ap next_begins e) ∙ f in
    (ap run_size e ∙ cond-false p.begins 0 (p.size + run_size qs) g, ap run_rest e ∙ cond-false p.begins (p ∷ qs) (run_rest qs) g)

-- ---- blocks

pub no_blocks : (b : List ℕ) (ps : List Piece) → ps ≡ [] → (joined b ps).1 ≡ []
unfolding joined
no_blocks b ps e = ap (λ (qs : List Piece). (joined b qs).1) e

pub joined_begins : (b : List ℕ) (p : Piece) (ps : List Piece) → p.begins ≡ true
    → joined b (p ∷ ps) ≡ ([], record { kind = p.kind; octets = piece_octets b p ++ (joined b ps).0 } ∷ (joined b ps).1)
unfolding joined
joined_begins b p ps h = cond-true p.begins _ _ h

pub joined_continues : (b : List ℕ) (p : Piece) (ps : List Piece) → p.begins ≡ false
    → joined b (p ∷ ps) ≡ (piece_octets b p ++ (joined b ps).0, (joined b ps).1)
unfolding joined
joined_continues b p ps h = cond-false p.begins _ _ h

none_continue : (b : List ℕ) (ps : List Piece) → next_begins ps ≡ true → (joined b ps).0 ≡ []
unfolding joined
none_continue b [] t = refl
none_continue b (p ∷ ps) t = ap (λ (j : List ℕ × List JoinedBlock). j.0) (joined_begins b p ps t)

-- ---- the pieces that are joined

pub joined_none : (ps : List Piece) → ps ≡ [] → joined_pieces ps ≡ []
unfolding joined_pieces
joined_none ps e = ap joined_pieces e

pub joined_whole : (p : Piece) (ps qs : List Piece) → qs ≡ p ∷ ps → p.begins ≡ true → next_begins ps ≡ true
    → joined_pieces qs ≡ joined_pieces ps
unfolding joined_pieces
joined_whole p ps qs e t u =
    ap joined_pieces e ∙ cond-true (p.begins && next_begins ps) (joined_pieces ps) (p ∷ joined_pieces ps)
    (ap₂ (λ (c d : Bool). c && d) t u)

kept : (p : Piece) (ps qs : List Piece) → qs ≡ p ∷ ps → (p.begins && next_begins ps) ≡ false → joined_pieces qs ≡ p ∷ joined_pieces ps
unfolding joined_pieces
kept p ps qs e f = ap joined_pieces e ∙ cond-false (p.begins && next_begins ps) (joined_pieces ps) (p ∷ joined_pieces ps) f

pub joined_later : (p : Piece) (ps qs : List Piece) → qs ≡ p ∷ ps → p.begins ≡ false → joined_pieces qs ≡ p ∷ joined_pieces ps
joined_later p ps qs e f = kept p ps qs e (ap (λ (c : Bool). c && next_begins ps) f)

pub joined_first : (p : Piece) (ps qs : List Piece) → qs ≡ p ∷ ps → p.begins ≡ true → next_begins ps ≡ false
    → joined_pieces qs ≡ p ∷ joined_pieces ps
joined_first p ps qs e t f = kept p ps qs e (ap₂ (λ (c d : Bool). c && d) t f)

-- ---- the next block

-- the bytes that continue a block, and what follows them
pub record Rest (b : List ℕ) (ps : List Piece) : Type 0 where
  pub size : run_size ps ≡ length (joined b ps).0
  pub octets : joined_octets b ps ≡ (joined b ps).0 ++ joined_octets b (run_rest ps)
  pub blocks : (joined b ps).1 ≡ (joined b (run_rest ps)).1
  pub begins : next_begins (run_rest ps) ≡ true
  pub sized : AreSized b (run_rest ps)

rest : (b : List ℕ) (ps : List Piece) → AreSized b ps → Rest b ps
unfolding joined run_size run_rest joined_pieces
rest b [] h = record { size = refl; octets = refl; blocks = refl; begins = refl; sized = tt }
rest b (p ∷ ps) h = elim (cases_Bool p.begins) [
  | inl t ↦
      let ends = run_ends (p ∷ ps) t in
      let none = none_continue b (p ∷ ps) t in
      record {
        size = omega (arith, ends.0, ap length none);
        octets = rw (none, ends.1) refl;
        blocks = ap (λ (qs : List Piece). (joined b qs).1) (sym ends.1);
        begins = ap next_begins ends.1 ∙ t;
        sized = rw ends.1 h;
      }
  | inr f ↦
      let goes = run_goes (p ∷ ps) ps p refl f in
      let more = rest b ps h.1 in
      let same = joined_continues b p ps f in
      let front = ap (λ (j : List ℕ × List JoinedBlock). j.0) same in
      record {
        size = omega (arith, goes.0, more.size, h.0, ap length front, length-append (piece_octets b p) (joined b ps).0);
        octets =
            ap (flat_map (piece_octets b)) (joined_later p ps (p ∷ ps) refl f)
            ∙ ap (λ (y : List ℕ). piece_octets b p ++ y) more.octets
            ∙ sym (append_assoc (piece_octets b p) (joined b ps).0 (joined_octets b (run_rest ps)))
            ∙ ap₂ (λ (y z : List ℕ). y ++ z) (sym front) (ap (joined_octets b) (sym goes.1));
        blocks =
            ap (λ (j : List ℕ × List JoinedBlock). j.1) same ∙ more.blocks ∙ ap (λ (qs : List Piece). (joined b qs).1) (sym goes.1);
        begins = ap next_begins goes.1 ∙ more.begins;
        sized = rw goes.1 more.sized;
      }
]

pub run_follows : (b : List ℕ) (ps : List Piece) → AreSized b ps → Rest b ps
run_follows b ps h = rest b ps h

-- a block of one piece is a range of the picture
pub whole_next : (b x : List ℕ) (p : Piece) (ps qs : List Piece) → qs ≡ p ∷ ps → CanCut b x qs → next_begins ps ≡ true
    → CanCut b x ps × ((joined b qs).1 ≡ record { kind = p.kind; octets = range b p.start p.size } ∷ (joined b ps).1)
whole_next b x p ps qs e (t, h, j) u =
    let begins : p.begins ≡ true = sym (ap next_begins e) ∙ t in (
      (u, (subst (AreSized b) e h).1, j ∙ ap (flat_map (piece_octets b)) (joined_whole p ps qs e begins u)),
      ap (λ (rs : List Piece). (joined b rs).1) e
          ∙ ap (λ (k : List ℕ × List JoinedBlock). k.1) (joined_begins b p ps begins)
          ∙ ap (λ (y : List ℕ). record { kind = p.kind; octets = y } ∷ (joined b ps).1)
          (ap (λ (y : List ℕ). piece_octets b p ++ y) (none_continue b ps u) ∙ append-nil (piece_octets b p)),
    )

-- any other is at the start of the joined bytes: its first piece p, n bytes that continue it, and the pieces rs behind it
pub record Cut (b x : List ℕ) (p : Piece) (qs : List Piece) (n : ℕ) (rs : List Piece) : Type 0 where
  pub fits : p.size + n ≤ length x
  pub block : (joined b qs).1 ≡ record { kind = p.kind; octets = take (p.size + n) x } ∷ (joined b rs).1
  pub cuts : CanCut b (drop (p.size + n) x) rs

pub joined_next : (b x : List ℕ) (p : Piece) (ps qs : List Piece) → qs ≡ p ∷ ps → CanCut b x qs → next_begins ps ≡ false
    → Cut b x p qs (run_size ps) (run_rest ps)
joined_next b x p ps qs e (t, h, j) f =
    let begins : p.begins ≡ true = sym (ap next_begins e) ∙ t in
    let sized = subst (AreSized b) e h in
    let more = rest b ps sized.1 in
    let front : List ℕ = piece_octets b p ++ (joined b ps).0 in
    let back : List ℕ = joined_octets b (run_rest ps) in
    let n : p.size + run_size ps ≡ length front = omega (arith, sized.0, more.size, length-append (piece_octets b p) (joined b ps).0) in
    let whole : x ≡ front ++ back =
    j ∙ ap (flat_map (piece_octets b)) (joined_first p ps qs e begins f) ∙ ap (λ (y : List ℕ). piece_octets b p ++ y) more.octets
    ∙ sym (append_assoc (piece_octets b p) (joined b ps).0 back) in
    record {
      fits = omega (arith, n, ap (λ (y : List ℕ). length y) whole, length-append front back);
      block =
          ap (λ (rs : List Piece). (joined b rs).1) e
          ∙ ap (λ (k : List ℕ × List JoinedBlock). k.1) (joined_begins b p ps begins)
          ∙ ap₂ (λ (y : List ℕ) (ks : List JoinedBlock). record { kind = p.kind; octets = y } ∷ ks)
          (sym (ap₂ (λ (m : ℕ) (y : List ℕ). take m y) n whole ∙ take-append_seam front back)) more.blocks;
      cuts = (more.begins, more.sized, ap₂ (λ (m : ℕ) (y : List ℕ). drop m y) n whole ∙ drop-append_seam front back);
    }

-- the same of what a call returned
pub cut_at : (b x : List ℕ) (p : Piece) (ps qs : List Piece) (n : ℕ) (rs : List Piece) → n ≡ run_size ps → rs ≡ run_rest ps
    → Cut b x p qs (run_size ps) (run_rest ps) → Cut b x p qs n rs
cut_at b x p ps qs n rs e f c = rw (e, f) c
