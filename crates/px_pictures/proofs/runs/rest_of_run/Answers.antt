use Rattle.std.proofs.Common.{sym, ◌∙◌, arith}
use Rattle.px_pictures.proofs.Cutting.{run_ends, run_goes}
use Rattle.px_pictures.proofs.runs.rest_of_run.Goals as goal

pub returns-then-next_begins-clause-size : goal.returns-then-next_begins-clause-size
returns-then-next_begins-clause-size c =
    let ends = run_ends c.loop-size.left (sym c.next_begins.ensures ∙ c.if-next_begins.true) in
    omega (arith, c.loop-size.invariant.size, ends.0)

pub returns-then-next_begins-clause-rest : goal.returns-then-next_begins-clause-rest
returns-then-next_begins-clause-rest c =
    let ends = run_ends c.loop-size.left (sym c.next_begins.ensures ∙ c.if-next_begins.true) in
    sym ends.1 ∙ c.loop-size.invariant.rest

pub overflow_add-size : goal.overflow_add-size
overflow_add-size c =
    let goes = run_goes c.loop-size.left c.next_piece.new.self c.in-Some.piece c.in-Some.ensures
    (sym c.next_begins.ensures ∙ c.if-next_begins.false) in
    omega (arith, c.loop-size.invariant.size, goes.0, c.requires)

pub loop-size-preserved : goal.loop-size-preserved
loop-size-preserved c =
    let goes = run_goes c.loop-size.left c.next_piece.new.self c.in-Some.piece c.in-Some.ensures
    (sym c.next_begins.ensures ∙ c.if-next_begins.false) in
    record {
      size = omega (arith, c.loop-size.invariant.size, goes.0);
      rest = sym goes.1 ∙ c.loop-size.invariant.rest;
    }
