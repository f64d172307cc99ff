use Rattle.std.proofs.Common.{sym, ◌∙◌}
use Rattle.std.proofs.lemmas.Bool.{not-true, not-false}
use Rattle.px_pictures.proofs.Cutting.{joined_none, joined_whole, joined_later, joined_first}
use Rattle.px_pictures.proofs.joining.next_joined.Goals as goal
use Rattle.px_pictures.proofs.joining.next_joined.Goals.{then-not-piece-via-then-not-piece, then-not-piece-via-else-not-piece+then-not-next_begins}

pub returns-in_default : goal.returns-in_default
returns-in_default c =
    (sym c.loop-piece.invariant ∙ joined_none c.loop-piece.left c.in_default.ensures.0, joined_none c.next_piece.new.self c.in_default.ensures.1)

pub returns-then-not-piece : goal.returns-then-not-piece
returns-then-not-piece c =
    sym c.loop-piece.invariant ∙ (elim c.then-not-piece.branch [
      | then-not-piece-via-then-not-piece w ↦
          joined_later c.in-Some.piece c.next_piece.new.self c.loop-piece.left c.in-Some.ensures (not-true _ w.if-not-piece.true)
      | then-not-piece-via-else-not-piece+then-not-next_begins w ↦
          joined_first c.in-Some.piece c.next_piece.new.self c.loop-piece.left c.in-Some.ensures (not-false _ w.if-not-piece.false)
          (sym w.next_begins.ensures ∙ w.if-not-next_begins.true)
    ])

pub loop-piece-preserved : goal.loop-piece-preserved
loop-piece-preserved c =
    sym (joined_whole c.in-Some.piece c.next_piece.new.self c.loop-piece.left c.in-Some.ensures (not-false _ c.if-not-piece.false)
    (sym c.next_begins.ensures ∙ c.if-not-next_begins.false))
    ∙ c.loop-piece.invariant
