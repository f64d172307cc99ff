use Rattle.std.proofs.Common.{ℕ, List, ◌∷◌, sym, ap, ◌∙◌, arith}
use Rattle.px_jpeg.specs.Blocks.{joined}
use Rattle.px_pictures.proofs.Cutting.{no_blocks, whole_next, joined_next, cut_at}
use Rattle.px_pictures.proofs.runs.Runs.next_run.Goals as goal

pub returns-in_default : goal.returns-in_default
returns-in_default c = (
  sym c.self.view_is ∙ no_blocks c.self.inside.picture.now c.self.inside.left c.in_default.ensures.0,
  no_blocks c.self.inside.picture.now c.next_piece.new.self c.in_default.ensures.1,
)

-- ---- a block of one piece

pub invariant_of-self-then-next_begins : goal.invariant_of-self-then-next_begins
invariant_of-self-then-next_begins c =
    (whole_next c.self.inside.picture.now c.self.inside.octets.now c.in-Some.piece c.next_piece.new.self c.self.inside.left
    c.in-Some.ensures c.self.invariant (sym c.next_begins.ensures ∙ c.if-next_begins.true)).0

pub returns-then-next_begins : goal.returns-then-next_begins
returns-then-next_begins c =
    sym c.self.view_is
    ∙ (whole_next c.self.inside.picture.now c.self.inside.octets.now c.in-Some.piece c.next_piece.new.self c.self.inside.left
    c.in-Some.ensures c.self.invariant (sym c.next_begins.ensures ∙ c.if-next_begins.true)).1
    ∙ ap (λ (x : List ℕ). record { kind = c.in-Some.piece.kind; octets = x } ∷ (joined c.self.inside.picture.now c.next_piece.new.self).1)
    (sym c.range-octets.ensures)

-- ---- a joined block

pub rest_of_run-more-requires : goal.rest_of_run-more-requires
rest_of_run-more-requires c =
    let cut = joined_next c.self.inside.picture.now c.self.inside.octets.now c.in-Some.piece c.next_piece.new.self c.self.inside.left
    c.in-Some.ensures c.self.invariant (sym c.next_begins.ensures ∙ c.if-next_begins.false) in
    omega (arith, cut.fits)

pub overflow_add-piece : goal.overflow_add-piece
overflow_add-piece c =
    let cut = cut_at c.self.inside.picture.now c.self.inside.octets.now c.in-Some.piece c.next_piece.new.self c.self.inside.left _ _
    c.rest_of_run-more.ensures.size c.rest_of_run-more.ensures.rest
    (joined_next c.self.inside.picture.now c.self.inside.octets.now c.in-Some.piece c.next_piece.new.self c.self.inside.left
    c.in-Some.ensures c.self.invariant (sym c.next_begins.ensures ∙ c.if-next_begins.false)) in
    omega (arith, cut.fits)

pub split_at-requires : goal.split_at-requires
split_at-requires c =
    let cut = cut_at c.self.inside.picture.now c.self.inside.octets.now c.in-Some.piece c.next_piece.new.self c.self.inside.left _ _
    c.rest_of_run-more.ensures.size c.rest_of_run-more.ensures.rest
    (joined_next c.self.inside.picture.now c.self.inside.octets.now c.in-Some.piece c.next_piece.new.self c.self.inside.left
    c.in-Some.ensures c.self.invariant (sym c.next_begins.ensures ∙ c.if-next_begins.false)) in
    omega (arith, cut.fits)

pub invariant_of-self-2 : goal.invariant_of-self-2
invariant_of-self-2 c =
    let cut = cut_at c.self.inside.picture.now c.self.inside.octets.now c.in-Some.piece c.next_piece.new.self c.self.inside.left _ _
    c.rest_of_run-more.ensures.size c.rest_of_run-more.ensures.rest
    (joined_next c.self.inside.picture.now c.self.inside.octets.now c.in-Some.piece c.next_piece.new.self c.self.inside.left
    c.in-Some.ensures c.self.invariant (sym c.next_begins.ensures ∙ c.if-next_begins.false)) in
    (cut.cuts.0, cut.cuts.1, c.split_at.ensures.back ∙ cut.cuts.2)

pub returns : goal.returns
returns c =
    let cut = cut_at c.self.inside.picture.now c.self.inside.octets.now c.in-Some.piece c.next_piece.new.self c.self.inside.left _ _
    c.rest_of_run-more.ensures.size c.rest_of_run-more.ensures.rest
    (joined_next c.self.inside.picture.now c.self.inside.octets.now c.in-Some.piece c.next_piece.new.self c.self.inside.left
    c.in-Some.ensures c.self.invariant (sym c.next_begins.ensures ∙ c.if-next_begins.false)) in
    sym c.self.view_is
    ∙ cut.block
    ∙ ap (λ (x : List ℕ). record { kind = c.in-Some.piece.kind; octets = x } ∷ (joined c.self.inside.picture.now c.rest_of_run-more.new.left).1)
    (sym c.split_at.ensures.front)
