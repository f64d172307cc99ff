use Rattle.px_pictures.specs.Metadata.{blocks_of}
use Rattle.px_pictures.proofs.SameLaws.{means_same}
use Rattle.px_pictures.proofs.same.same_metadata_in.Goals as goal

pub returns-clause-same : goal.returns-clause-same
returns-clause-same c =
    means_same c.same_second-same.result c.args.first.now c.args.second.now (blocks_of c.in_ok-one.one) c.one_meaning.ensures
    c.in_ok-one.ensures.found.1 c.same_second-same.ensures.same
