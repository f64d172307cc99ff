use Rattle.std.proofs.Common.{ℕ, List, ◌++◌, sym, ap, ap₂, ◌∙◌}
use Rattle.std.specs.Prelude.{flat_map}
use Rattle.px_jpeg.specs.Blocks.{JoinedBlock}
use Rattle.px_pictures.specs.calls.Runs.{records, records_in}
use Rattle.px_pictures.proofs.blocks.IptcBlocksIterator.next.Goals as goal

abbrev joined : List (List ℕ) → List JoinedBlock → List (List ℕ)
joined xs ks = xs ++ flat_map records_in ks

pub returns-in_default-next_run-clause-steps : goal.returns-in_default-next_run-clause-steps
returns-in_default-next_run-clause-steps c = (
  sym c.self.view_is ∙ sym c.loop-block.invariant ∙ ap₂ joined c.in_default.ensures.0 c.in_default-next_run.ensures.0,
  ap₂ joined c.in_default.ensures.1 c.in_default-next_run.ensures.1,
)

pub loop-block-preserved : goal.loop-block-preserved
loop-block-preserved c =
    ap (λ (xs : List (List ℕ)). joined xs c.next_run.new.self)
    (ap (records c.resources_in-self-inside.result.now) c.find_resources-self-inside.ensures.computed ∙ c.resources_in-self-inside.ensures)
    ∙ sym (ap₂ joined c.in_default.ensures.0 c.in-Some-next_run.ensures)
    ∙ c.loop-block.invariant
