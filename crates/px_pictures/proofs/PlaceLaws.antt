-- The places of blocks.
use Rattle.std.proofs.Common.{◌≡◌, ◌≤◌, ◌<◌, ◌+◌, ◌^◌, ℕ, true, false, inl, inr, None, List, [], ◌∷◌, ◌++◌, length}
use Rattle.std.proofs.Common.{take, drop, map, refl, sym, ap, ap₂, ◌∙◌, arith, append_assoc, length-append, length-drop, length-take}
use Rattle.std.specs.Prelude.{flat_map}
use Rattle.std.proofs.lemmas.Bool.{cond-true, cond-false, cases_Bool}
use Rattle.std.proofs.lemmas.List.{length-map, drop-drop, take-append-drop, nil_from_length}
use Rattle.std.proofs.lemmas.Slice.{take-put_mid, drop-put_mid}
use borrow.Rule.Slice.PartMut.{put_mid}
use Rattle.std.proofs.Math.Seq.{drop-append_seam}
use Rattle.px_jpeg.specs.declared.Part.{Part}
use Rattle.px_jpeg.specs.declared.Piece.{Piece}
use Rattle.px_jpeg.specs.Front.{HasFront}
use Rattle.px_jpeg.specs.Pieces.{range, pieces}
use Rattle.px_jpeg.specs.Blocks.{JoinedBlock, piece_octets, joined, blocks}
use Rattle.px_pictures.specs.declared.places.BlockPlace.{BlockPlace}
use Rattle.px_pictures.specs.Metadata.{sizes, next_begins, joined_pieces, joined_size}
use Rattle.px_pictures.specs.Places.{block_at, ArePlaces}
use Rattle.px_pictures.specs.calls.Places.{whole_place, joined_place, places_from}
use Rattle.px_pictures.specs.calls.Runs.{AreSized, joined_octets, run_size, run_rest}
use Rattle.px_pictures.proofs.CountLaws.{blocks_few}
use Rattle.px_pictures.proofs.Cutting.{run_ends, run_goes, joined_continues, joined_whole, joined_first, joined_later, run_follows, pieces_sized}
use Rattle.px_pictures.proofs.Cutting.{whole_next, joined_next, first_begins}
use Rattle.px_pictures.proofs.Inside.{front_inside, joined_within}

-- ---- the next place

pub no_places : (at : ℕ) (ps : List Piece) → ps ≡ [] → places_from at ps ≡ []
unfolding places_from
no_places at ps e = ap (places_from at) e

pub place_whole : (at : ℕ) (p : Piece) (ps qs : List Piece) → qs ≡ p ∷ ps → p.begins ≡ true → next_begins ps ≡ true
    → places_from at qs ≡ whole_place p ∷ places_from at ps
unfolding places_from
place_whole at p ps qs e t u = ap (places_from at) e ∙ cond-true p.begins _ _ t ∙ cond-true (next_begins ps) _ _ u

pub place_joined : (at : ℕ) (p : Piece) (ps qs : List Piece) → qs ≡ p ∷ ps → p.begins ≡ true → next_begins ps ≡ false
    → places_from at qs ≡ joined_place at p (run_size ps) ∷ places_from (at + p.size) ps
unfolding places_from
place_joined at p ps qs e t f = ap (places_from at) e ∙ cond-true p.begins _ _ t ∙ cond-false (next_begins ps) _ _ f

place_later : (at : ℕ) (p : Piece) (ps : List Piece) → p.begins ≡ false → places_from at (p ∷ ps) ≡ places_from (at + p.size) ps
unfolding places_from
place_later at p ps f = cond-false p.begins _ _ f

-- what is left after the pieces that continue a block
pub record Passed (ps : List Piece) : Type 0 where
  pub sizes : sizes (joined_pieces ps) ≡ run_size ps + sizes (joined_pieces (run_rest ps))
  pub begins : next_begins (run_rest ps) ≡ true
  pub places : (at : ℕ) → places_from at ps ≡ places_from (at + run_size ps) (run_rest ps)

pub run_passed : (ps : List Piece) → Passed ps
unfolding run_size run_rest places_from joined_pieces
run_passed [] = record { sizes = refl; begins = refl; places = λ at. refl }
run_passed (p ∷ ps) = elim (cases_Bool p.begins) [
  | inl t ↦
      let ends = run_ends (p ∷ ps) t in
      record {
        sizes = omega (arith, ends.0, ap (λ (qs : List Piece). sizes (joined_pieces qs)) ends.1);
        begins = ap next_begins ends.1 ∙ t;
        places = λ at. ap₂ places_from (omega (arith, ends.0)) (sym ends.1);
      }
  | inr f ↦
      let goes = run_goes (p ∷ ps) ps p refl f in
      let more = run_passed ps in
      record {
        sizes =
            omega (
              arith,
              ap sizes (joined_later p ps (p ∷ ps) refl f),
              more.sizes,
              goes.0,
              ap (λ (qs : List Piece). sizes (joined_pieces qs)) goes.1,
            );
        begins = ap next_begins goes.1 ∙ more.begins;
        places = λ at.
            place_later at p ps f ∙ more.places (at + p.size)
            ∙ ap₂ places_from (omega (arith, goes.0)) (sym goes.1);
      }
]

-- a block of one piece
pub whole_left : (at : ℕ) (p : Piece) (ps qs : List Piece) → qs ≡ p ∷ ps → next_begins qs ≡ true → next_begins ps ≡ true
    → (places_from at qs ≡ whole_place p ∷ places_from at ps) × (joined_pieces qs ≡ joined_pieces ps)
whole_left at p ps qs e t u =
    let begins : p.begins ≡ true = sym (ap next_begins e) ∙ t in
    (place_whole at p ps qs e begins u, joined_whole p ps qs e begins u)

-- a joined block: n bytes continue its first piece, and the pieces rs are behind it
pub record Joins (at : ℕ) (p : Piece) (qs : List Piece) (n : ℕ) (rs : List Piece) : Type 0 where
  pub places : places_from at qs ≡ joined_place at p n ∷ places_from (at + (p.size + n)) rs
  pub begins : next_begins rs ≡ true
  pub sizes : sizes (joined_pieces qs) ≡ p.size + (n + sizes (joined_pieces rs))

pub joins_next : (at : ℕ) (p : Piece) (ps qs : List Piece) → qs ≡ p ∷ ps → next_begins qs ≡ true → next_begins ps ≡ false
    → Joins at p qs (run_size ps) (run_rest ps)
joins_next at p ps qs e t f =
    let begins : p.begins ≡ true = sym (ap next_begins e) ∙ t in
    let passed = run_passed ps in
    record {
      places =
          place_joined at p ps qs e begins f
          ∙ ap (λ (xs : List BlockPlace). joined_place at p (run_size ps) ∷ xs)
          (passed.places (at + p.size) ∙ ap (λ (n : ℕ). places_from n (run_rest ps)) (omega arith));
      begins = passed.begins;
      sizes = omega (arith, ap sizes (joined_first p ps qs e begins f), passed.sizes);
    }

-- the same of what a call returned
pub joins_at : (at : ℕ) (p : Piece) (ps qs : List Piece) (n : ℕ) (rs : List Piece) → n ≡ run_size ps → rs ≡ run_rest ps
    → Joins at p qs (run_size ps) (run_rest ps) → Joins at p qs n rs
joins_at at p ps qs n rs e f j = rw (e, f) j

-- ---- all places

-- the joined bytes all, from offset `at` on, are those of these pieces
after_piece : (b all : List ℕ) (at : ℕ) (p : Piece) (more : List ℕ) → length (piece_octets b p) ≡ p.size
    → drop at all ≡ piece_octets b p ++ more → drop (at + p.size) all ≡ more
after_piece b all at p more s e =
    sym (drop-drop p.size at all) ∙ ap₂ (λ (n : ℕ) (x : List ℕ). drop n x) (sym s) e ∙ drop-append_seam (piece_octets b p) more

places_are : (b all : List ℕ) (at : ℕ) (ps : List Piece) → AreSized b ps → drop at all ≡ joined_octets b ps
    → map (block_at b all) (places_from at ps) ≡ (joined b ps).1
unfolding joined places_from
places_are b all at [] s e = refl
places_are b all at (p ∷ ps) s e = elim (cases_Bool p.begins) [
  | inl t ↦ elim (cases_Bool (next_begins ps)) [
    | inl u ↦
        ap (map (block_at b all)) (place_whole at p ps (p ∷ ps) refl t u)
        ∙ ap (λ (ks : List JoinedBlock). record { kind = p.kind; octets = range b p.start p.size } ∷ ks)
        (places_are b all at ps s.1 (e ∙ ap (flat_map (piece_octets b)) (joined_whole p ps (p ∷ ps) refl t u)))
        ∙ sym (whole_next b (joined_octets b (p ∷ ps)) p ps (p ∷ ps) refl (t, s, refl) u).1
    | inr f ↦
        let cut = joined_next b (drop at all) p ps (p ∷ ps) refl (t, s, e) f in
        ap (map (block_at b all)) (place_joined at p ps (p ∷ ps) refl t f)
        ∙ ap (λ (ks : List JoinedBlock). record { kind = p.kind; octets = take (p.size + run_size ps) (drop at all) } ∷ ks)
        (places_are b all (at + p.size) ps s.1
        (after_piece b all at p (joined_octets b ps) s.0
        (e ∙ ap (flat_map (piece_octets b)) (joined_first p ps (p ∷ ps) refl t f)))
        ∙ (run_follows b ps s.1).blocks)
        ∙ sym cut.block
  ]
  | inr f ↦
      ap (map (block_at b all)) (place_later at p ps f)
      ∙ places_are b all (at + p.size) ps s.1
      (after_piece b all at p (joined_octets b ps) s.0
      (e ∙ ap (flat_map (piece_octets b)) (joined_later p ps (p ∷ ps) refl f)))
      ∙ sym (ap (λ (j : List ℕ × List JoinedBlock). j.1) (joined_continues b p ps f))
]

-- what holds of the places of some parts
pub record Placed (b : List ℕ) (parts : List Part) (ps : List Piece) : Type 0 where
  pub places : ArePlaces b parts (places_from 0 ps)
  pub begins : next_begins ps ≡ true
  pub sizes : 0 + sizes (joined_pieces ps) < 2 ^ 63
  pub few : length (places_from 0 ps) < 2 ^ 63

front_places : (b : List ℕ) (parts : List Part) → HasFront b parts → ArePlaces b parts (places_from 0 (pieces b None parts))
front_places b parts h =
    places_are b (joined_octets b (pieces b None parts)) 0 (pieces b None parts) (pieces_sized b parts (front_inside b parts h)) refl

pub front_placed : (b : List ℕ) (parts : List Part) (ps : List Piece) → HasFront b parts → length b < 2 ^ 63
    → ps ≡ pieces b None parts → Placed b parts ps
front_placed b parts ps h l e =
    let places = front_places b parts h in
    rw e record {
      places = places;
      begins = first_begins b parts;
      sizes = omega (arith, l, joined_within b parts h);
      few =
          omega (
            arith,
            l,
            blocks_few b parts h,
            ap (λ (ks : List JoinedBlock). length ks) places,
            length-map (places_from 0 (pieces b None parts)) (block_at b (joined_octets b (pieces b None parts))),
          );
    }

pub count_placed : (b : List ℕ) (parts : List Part) (places : List BlockPlace) → ArePlaces b parts places
    → length places ≡ length (blocks b parts)
count_placed b parts places h =
    sym (length-map places (block_at b (joined_octets b (pieces b None parts)))) ∙ ap (λ (ks : List JoinedBlock). length ks) h

-- ---- the joined bytes

pub joined_more : (b : List ℕ) (p : Piece) (ps qs : List Piece) → joined_pieces qs ≡ p ∷ joined_pieces ps
    → joined_octets b qs ≡ piece_octets b p ++ joined_octets b ps
joined_more b p ps qs e = ap (flat_map (piece_octets b)) e

pub length_more : (b : List ℕ) (p : Piece) (ps qs : List Piece) → joined_pieces qs ≡ p ∷ joined_pieces ps
    → length (joined_octets b qs) ≡ length (piece_octets b p) + length (joined_octets b ps)
length_more b p ps qs e =
    ap (λ (x : List ℕ). length x) (joined_more b p ps qs e) ∙ length-append (piece_octets b p) (joined_octets b ps)

-- the bytes x are written to out at an index
pub record Put (at : ℕ) (out new x : List ℕ) : Type 0 where
  pub front : take (at + length x) new ≡ take at out ++ x
  pub after : drop (at + length x) new ≡ drop (at + length x) out
  pub long : length new ≡ length out

pub put_at : (at k : ℕ) (out ys x : List ℕ) → ys ≡ x → k ≡ length x → at + length x ≤ length out → Put at out (put_mid at k out ys) x
put_at at k out ys x e f l =
    let n = ap (λ (z : List ℕ). length z) e in
    let new = put_mid at k out ys in
    let front = take-put_mid at k out ys (at + length x) (omega (arith, n)) (omega (arith, l)) in
    let after = drop-put_mid at k out ys (at + length x) (omega (arith, f)) (omega (arith, l)) (omega (arith, n, f)) in
    record {
      front = front ∙ ap (λ (z : List ℕ). take at out ++ z) e;
      after = after;
      long =
          omega (
            arith,
            l,
            n,
            ap (λ (z : List ℕ). length z) (take-append-drop (at + length x) new),
            length-append (take (at + length x) new) (drop (at + length x) new),
            ap (λ (z : List ℕ). length z) front,
            length-append (take at out) ys,
            length-take at out,
            ap (λ (z : List ℕ). length z) after,
            length-drop (at + length x) out,
          );
    }

pub put_front : (b : List ℕ) (at : ℕ) (out new x whole : List ℕ) (p : Piece) (ps qs : List Piece) → Put at out new x
    → x ≡ piece_octets b p → joined_pieces qs ≡ p ∷ joined_pieces ps → take at out ++ joined_octets b qs ≡ whole
    → take (at + length x) new ++ joined_octets b ps ≡ whole
put_front b at out new x whole p ps qs put e j w =
    ap (λ (z : List ℕ). z ++ joined_octets b ps) put.front
    ∙ append_assoc (take at out) x (joined_octets b ps)
    ∙ ap (λ (z : List ℕ). take at out ++ (z ++ joined_octets b ps)) e
    ∙ ap (λ (z : List ℕ). take at out ++ z) (sym (joined_more b p ps qs j))
    ∙ w

pub put_after : (at : ℕ) (first out new x : List ℕ) → Put at out new x → drop at out ≡ drop at first
    → drop (at + length x) new ≡ drop (at + length x) first
put_after at first out new x put e =
    put.after ∙ sym (drop-drop (length x) at out) ∙ ap (drop (length x)) e ∙ drop-drop (length x) at first

octets_within : (b : List ℕ) (ps : List Piece) → length (flat_map (piece_octets b) ps) ≤ sizes ps
octets_within b [] = omega arith
octets_within b (p ∷ ps) =
    omega (
      arith,
      length-take p.size (drop p.start b),
      octets_within b ps,
      length-append (piece_octets b p) (flat_map (piece_octets b) ps),
    )

-- nothing is joined
pub none_joined : (b : List ℕ) (parts : List Part) → joined_size b parts ≡ 0 → joined_octets b (pieces b None parts) ≡ []
none_joined b parts e =
    nil_from_length (joined_octets b (pieces b None parts)) (omega (arith, e, octets_within b (joined_pieces (pieces b None parts))))

pub joined_few : (b : List ℕ) (parts : List Part) → HasFront b parts → length (joined_octets b (pieces b None parts)) ≤ length b
joined_few b parts h = omega (arith, octets_within b (joined_pieces (pieces b None parts)), joined_within b parts h)
