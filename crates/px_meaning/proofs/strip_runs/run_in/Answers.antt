use Rattle.std.proofs.Common.{◌++◌, ◌∙◌, ℕ, List, Some, take, flat_map, ap, sym}
use Rattle.px_meaning.specs.calls.Strips.{named_strips}
use Rattle.px_meaning.proofs.tables.StripRuns.{ends_inside, first_joined}
use Rattle.px_meaning.proofs.strip_runs.run_in.Goals as goal

pub bytes_between-requires-clause-inside : goal.bytes_between-requires-clause-inside
bytes_between-requires-clause-inside c =
    ends_inside c.args.lists.now c.requires.named c.args.i c.number_in-start.result c.number_in-size.result c.number_in-start.ensures
    c.number_in-size.ensures

pub returns-then-size-ne0-clause-bytes : goal.returns-then-size-ne0-clause-bytes
returns-then-size-ne0-clause-bytes c = λ f keeps.
    first_joined c.args.lists.now c.requires.named c.args.i c.number_in-start.result c.number_in-size.result c.number_in-start.ensures
    c.number_in-size.ensures f keeps
    ∙ ap (λ (ys : List ℕ). flat_map f (take c.args.i (named_strips (Some c.args.lists.now))) ++ f ys) (sym c.bytes_between.ensures)

pub longer_run-requires-clause-inside : goal.longer_run-requires-clause-inside
longer_run-requires-clause-inside c =
    ends_inside c.args.lists.now c.requires.named c.args.i c.number_in-start.result c.number_in-size.result c.number_in-start.ensures
    c.number_in-size.ensures

pub longer_run-requires-clause-first : goal.longer_run-requires-clause-first
longer_run-requires-clause-first c =
    first_joined c.args.lists.now c.requires.named c.args.i c.number_in-start.result c.number_in-size.result c.number_in-start.ensures
    c.number_in-size.ensures
