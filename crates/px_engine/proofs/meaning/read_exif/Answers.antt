use Rattle.std.proofs.Common.{sym, subst}
use Rattle.px_bytes.specs.Parts.{limit}
use Rattle.px_engine.specs.declared.kind.BlockKind.TheVariants as kind
use Rattle.px_engine.specs.Input.{IsFaultyIn}
use Rattle.px_engine.proofs.Judged.{exif_long}
use Rattle.px_engine.proofs.meaning.read_exif.Goals as goal

pub returns-in-Err-clause-refused : goal.returns-in-Err-clause-refused
returns-in-Err-clause-refused c =
    subst (λ z. IsFaultyIn kind.Exif c.args.bytes.now z limit) (sym c.in-Err.ensures.0)
    (exif_long c.args.bytes.now c.faults_decide.ensures c.in-Err.ensures.1)
