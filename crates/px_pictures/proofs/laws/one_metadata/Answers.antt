use Rattle.px_pictures.proofs.MetadataLaws.{one_metadata}
use Rattle.px_pictures.proofs.laws.one_metadata.Goals as goal

pub returns : goal.returns
returns c = one_metadata c.one_head.ensures c.one_meaning.ensures
