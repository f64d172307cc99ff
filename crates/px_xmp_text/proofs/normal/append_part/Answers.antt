use Rattle.std.proofs.Common.{◌≡◌, ◌≤◌, ◌+◌, ◌++◌, ℕ, List, drop, take, is_some, ap, ◌∙◌, arith, length, vec_len, vec_capacity}
use Rattle.px_xmp_text.specs.Texts.{piece, text_in, normal_text}
use Rattle.px_xmp_text.proofs.PieceLaws.{text_taken, if_some, to_some, plain_taken, piece_room}
use Rattle.px_xmp_text.proofs.normal.append_part.Goals as goal

pub append_piece-requires-clause-good : goal.append_piece-requires-clause-good
append_piece-requires-clause-good c =
    let (m, t, e) = c.requires.good in
    let w = text_taken m c.args.kind c.args.octets.now t c.requires.some e in ap is_some w.is

pub append_piece-requires-clause-room : goal.append_piece-requires-clause-room
append_piece-requires-clause-room c =
    let (m, t, e) = c.requires.good in
    let k = c.args.kind in
    let x = c.args.octets.now in
    let w = text_taken m k x t c.requires.some e in
    let b = piece_room k x w.piece_of w.is in
    let P : List ℕ × ℕ → Type 0 = λ p. vec_len c.args.out.now + length (normal_text p.0) ≤ vec_capacity c.args.out.now in
    to_some P (piece k x) w.piece_of w.is (omega (arith, b.0, b.1, c.requires.room))

pub returns-then-len-eq0-clause-value : goal.returns-then-len-eq0-clause-value
returns-then-len-eq0-clause-value c m t e =
    let k = c.args.kind in
    let x = c.args.octets.now in
    let old = c.args.out.now.items in
    let new = c.append_piece.new.out.items in
    let n = c.append_piece.result in
    let w = text_taken m k x t c.requires.some e in
    let len = if_some (λ (p : List ℕ × ℕ). (n ≡ p.1) × (vec_len c.append_piece.new.out ≡ vec_len c.args.out.now + length (normal_text p.0)))
    (piece k x) w.piece_of w.is c.append_piece.ensures.len in
    record {
      part = w.piece_of.0;
      later = w.later;
      fuel = w.fuel;
      rest = ap (λ (j : ℕ). text_in w.fuel k (drop j x)) len.0 ∙ w.rest;
      joined = w.joined;
      appended = if_some (λ (p : List ℕ × ℕ). new ≡ old ++ normal_text p.0) (piece k x) w.piece_of w.is c.append_piece.ensures.items;
    }

pub returns-then-len-eq0-clause-room : goal.returns-then-len-eq0-clause-room
returns-then-len-eq0-clause-room c =
    let (m, t, e) = c.requires.good in
    let k = c.args.kind in
    let x = c.args.octets.now in
    let n = c.append_piece.result in
    let w = text_taken m k x t c.requires.some e in
    let b = piece_room k x w.piece_of w.is in
    let len = if_some (λ (p : List ℕ × ℕ). (n ≡ p.1) × (vec_len c.append_piece.new.out ≡ vec_len c.args.out.now + length (normal_text p.0)))
    (piece k x) w.piece_of w.is c.append_piece.ensures.len in
    omega (arith, b.0, len.0, len.1, c.append_piece.ensures.capacity)

pub returns-clause-value : goal.returns-clause-value
returns-clause-value c m t e =
    let k = c.args.kind in
    let x = c.args.octets.now in
    let old = c.args.out.now.items in
    let n = c.plain_len-len.ensures.value in
    let r = plain_taken m k x t old e in
    record {
      part = r.part;
      later = r.later;
      fuel = r.fuel;
      rest = ap (λ (j : ℕ). text_in r.fuel k (drop j x)) n ∙ r.rest;
      joined = r.joined;
      appended = c.append.ensures.items ∙ ap (λ (z : List ℕ). old ++ z) c.split_at.ensures.front
          ∙ ap (λ (j : ℕ). old ++ take j x) n ∙ r.appended;
    }
