-- What the sequence of a block gathers is its record.
use Rattle.std.proofs.Common.{◌≡◌, ◌∙◌, ◌≤◌, ℕ, List, [], Some, option_map, length, ap}
use Rattle.px_bytes.specs.Numbers.{AreBytes}
use Rattle.px_bytes.specs.Parts.{limit}
use Rattle.px_iim.specs.DataSet.{DataSet}
use Rattle.px_iim.specs.Group.{Record, gather, AreGroups}
use Rattle.px_iim.specs.Record.{iim_of, sequence_of}
use Rattle.px_iim.specs.lemmas.RecordLaws.{iim_of_computes, meaning_is_record}
use Rattle.px_iim.proofs.reading.Steps.{iim_of_within}
use Rattle.px_iim.proofs.reading.Walked.{datasets_is}

module _ (x : List ℕ) (ds : List DataSet) (i : Record) (short : length x ≤ limit) (read : sequence_of (length x) x ≡ Some ds)
    (gathered : gather [] ds ≡ i) where
  pub gathered_means : iim_of x ≡ Some i
  gathered_means = iim_of_within x short ∙ ap (option_map (gather [])) (datasets_is x ∙ read) ∙ ap (λ (r : Record). Some r) gathered

  pub gathered_whole : AreBytes x → AreGroups i
  gathered_whole b = (meaning_is_record x i b ((iim_of_computes x i).1 gathered_means)).whole
