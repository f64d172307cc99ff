use Rattle.std.proofs.Common.{List, length, sym, ap, ◌∙◌, arith}
use Rattle.px_jpeg.specs.declared.Piece.{Piece}
use Rattle.px_pictures.specs.declared.places.BlockPlace.{BlockPlace}
use Rattle.px_pictures.specs.Metadata.{sizes}
use Rattle.px_pictures.proofs.PlaceLaws.{no_places, whole_left, joins_next, joins_at}
use Rattle.px_pictures.proofs.places.PlacesIterator.next.Goals as goal

pub returns-in_default-clause-steps : goal.returns-in_default-clause-steps
returns-in_default-clause-steps c = (
  sym c.self.view_is ∙ no_places c.self.inside.at c.self.inside.left c.in_default.ensures.0,
  no_places c.self.inside.at c.next_piece.new.self c.in_default.ensures.1,
)

-- ---- a block of one piece

pub invariant_of-self-then-next_begins : goal.invariant_of-self-then-next_begins
invariant_of-self-then-next_begins c =
    let begins = sym c.next_begins.ensures ∙ c.if-next_begins.true in
    let whole = whole_left c.self.inside.at c.in-Some.piece c.next_piece.new.self c.self.inside.left c.in-Some.ensures c.self.invariant.0
    begins in (
      begins,
      omega (arith, c.self.invariant.1, ap (λ (ps : List Piece). sizes ps) whole.1),
      omega (arith, c.self.invariant.2, ap (λ (xs : List BlockPlace). length xs) whole.0),
    )

pub returns-then-next_begins-clause-steps : goal.returns-then-next_begins-clause-steps
returns-then-next_begins-clause-steps c =
    sym c.self.view_is
    ∙ (whole_left c.self.inside.at c.in-Some.piece c.next_piece.new.self c.self.inside.left c.in-Some.ensures c.self.invariant.0
    (sym c.next_begins.ensures ∙ c.if-next_begins.true)).0

pub returns-then-next_begins-clause-goes : goal.returns-then-next_begins-clause-goes
returns-then-next_begins-clause-goes c =
    let e = ap (λ (xs : List BlockPlace). length xs) (returns-then-next_begins-clause-steps c) in record {
      on = λ f. (tt, tt, omega arith);
      keeps = tt;
      rests = λ f. tt;
    }

-- ---- a joined block

pub rest_of_run-more-requires : goal.rest_of_run-more-requires
rest_of_run-more-requires c =
    let joins = joins_next c.self.inside.at c.in-Some.piece c.next_piece.new.self c.self.inside.left c.in-Some.ensures c.self.invariant.0
    (sym c.next_begins.ensures ∙ c.if-next_begins.false) in
    omega (arith, c.self.invariant.1, joins.sizes)

pub overflow_add-size : goal.overflow_add-size
overflow_add-size c =
    let joins = joins_at c.self.inside.at c.in-Some.piece c.next_piece.new.self c.self.inside.left _ _ c.rest_of_run-more.ensures.size
    c.rest_of_run-more.ensures.rest
    (joins_next c.self.inside.at c.in-Some.piece c.next_piece.new.self c.self.inside.left c.in-Some.ensures c.self.invariant.0
    (sym c.next_begins.ensures ∙ c.if-next_begins.false)) in
    omega (arith, c.self.invariant.1, joins.sizes)

pub overflow_add-self : goal.overflow_add-self
overflow_add-self c =
    let joins = joins_at c.self.inside.at c.in-Some.piece c.next_piece.new.self c.self.inside.left _ _ c.rest_of_run-more.ensures.size
    c.rest_of_run-more.ensures.rest
    (joins_next c.self.inside.at c.in-Some.piece c.next_piece.new.self c.self.inside.left c.in-Some.ensures c.self.invariant.0
    (sym c.next_begins.ensures ∙ c.if-next_begins.false)) in
    omega (arith, c.self.invariant.1, joins.sizes)

pub invariant_of-self-2 : goal.invariant_of-self-2
invariant_of-self-2 c =
    let joins = joins_at c.self.inside.at c.in-Some.piece c.next_piece.new.self c.self.inside.left _ _ c.rest_of_run-more.ensures.size
    c.rest_of_run-more.ensures.rest
    (joins_next c.self.inside.at c.in-Some.piece c.next_piece.new.self c.self.inside.left c.in-Some.ensures c.self.invariant.0
    (sym c.next_begins.ensures ∙ c.if-next_begins.false)) in (
      joins.begins,
      omega (arith, c.self.invariant.1, joins.sizes),
      omega (arith, c.self.invariant.2, ap (λ (xs : List BlockPlace). length xs) joins.places),
    )

pub returns-clause-steps : goal.returns-clause-steps
returns-clause-steps c =
    sym c.self.view_is
    ∙ (joins_at c.self.inside.at c.in-Some.piece c.next_piece.new.self c.self.inside.left _ _ c.rest_of_run-more.ensures.size
    c.rest_of_run-more.ensures.rest
    (joins_next c.self.inside.at c.in-Some.piece c.next_piece.new.self c.self.inside.left c.in-Some.ensures c.self.invariant.0
    (sym c.next_begins.ensures ∙ c.if-next_begins.false))).places

pub returns-clause-goes : goal.returns-clause-goes
returns-clause-goes c =
    let e = ap (λ (xs : List BlockPlace). length xs) (returns-clause-steps c) in record {
      on = λ f. (tt, tt, omega arith);
      keeps = tt;
      rests = λ f. tt;
    }
