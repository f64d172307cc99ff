use Rattle.std.proofs.Common.{sym, subst}
use Rattle.px_bytes.specs.Parts.{limit}
use Rattle.px_tree.specs.Refused.{IsFaultyExif}
use Rattle.px_pictures.proofs.JudgeLaws.{exif_long}
use Rattle.px_pictures.proofs.judged.judge_exif.Goals as goal

pub returns-in-Err-clause-refused : goal.returns-in-Err-clause-refused
returns-in-Err-clause-refused c =
    rw c.at.ensures (subst (λ z. IsFaultyExif c.args.bytes.now z limit) (sym c.in-Err.ensures.0)
    (exif_long c.args.bytes.now c.faults_decide.ensures c.in-Err.ensures.1))
