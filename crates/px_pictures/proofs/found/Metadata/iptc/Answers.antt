use Rattle.std.proofs.Common.{ℕ, List, ◌++◌, ap, ap₂, ◌∙◌}
use Rattle.std.specs.Prelude.{flat_map}
use Rattle.px_jpeg.specs.Blocks.{JoinedBlock, blocks}
use Rattle.px_jpeg.specs.Head.{Picture}
use Rattle.px_pictures.specs.Metadata.{blocks_of}
use Rattle.px_pictures.specs.calls.Runs.{records, records_in}
use Rattle.px_pictures.proofs.Inside.{head_front, front_inside}
use Rattle.px_pictures.proofs.Records.{no_records, records_all}
use Rattle.px_pictures.proofs.found.Metadata.iptc.Goals as goal

pub runs_of-requires-clause-inside : goal.runs_of-requires-clause-inside
runs_of-requires-clause-inside c =
    front_inside c.self.inside.front.octets c.self.inside.front.parts
    (head_front c.self.inside.front.octets c.self.inside.front.parts c.self.invariant.0)

pub returns : goal.returns
returns c =
    ap₂ (λ (xs : List (List ℕ)) (ks : List JoinedBlock). xs ++ flat_map records_in ks)
    (ap (records c.split_at.result.0.now) c.find_resources.ensures.computed ∙ no_records c.split_at.result.0.now c.split_at.ensures.front)
    c.runs_of.ensures
    ∙ records_all (blocks c.self.inside.front.octets c.self.inside.front.parts)
    ∙ ap (λ (p : Picture). (blocks_of p).iptc) c.self.view_is
