use Rattle.px_meaning.specs.Tree.{Meaning}
use Rattle.px_meaning.specs.Says.{SaysExif}
use Rattle.px_meaning.specs.calls.Seen.{meaning_of}
use Rattle.px_pictures.proofs.PairLaws.{both_has_meaning}
use Rattle.px_pictures.proofs.compared.same_exif.Goals as goal

pub returns-clause-same : goal.returns-clause-same
returns-clause-same c =
    both_has_meaning Meaning SaysExif c.means-same.result c.args.first.now c.args.second.now (meaning_of c.in_ok-meaning.meaning)
    c.in_ok-meaning.ensures.meaning c.means-same.ensures.same
