use Rattle.std.proofs.Common.{◌≡◌, ◌++◌, length}
use Rattle.std.specs.Prelude.{flat_map}
use Rattle.px_pictures.specs.calls.Runs.{records, records_in}
use Rattle.px_pictures.proofs.blocks.IptcBlocksIterator.next.Given as goal

abbrev pub invariant-loop-block : goal.invariant-loop-block
invariant-loop-block l =
    records l.self-inside.octets.now l.self-inside.resources ++ flat_map records_in l.self-inside.runs
    ≡ records l.initial.self-inside.octets.now l.initial.self-inside.resources ++ flat_map records_in l.initial.self-inside.runs

abbrev pub decreases-loop-block : goal.decreases-loop-block
decreases-loop-block l = length l.self-inside.runs
