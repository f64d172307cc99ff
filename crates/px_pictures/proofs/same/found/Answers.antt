use Rattle.std.proofs.Common.{rules}
use Rattle.px_pictures.specs.Metadata.{blocks_of}
use Rattle.px_pictures.proofs.CountLaws.{has_few}
use Rattle.px_pictures.proofs.same.found.Goals as goal

pub returns-in-Ok-clause-few : goal.returns-in-Ok-clause-few
returns-in-Ok-clause-few c = has_few c.args.bytes.now (blocks_of c.in-Ok.found) c.in-Ok.ensures.found.1 (search rules)
