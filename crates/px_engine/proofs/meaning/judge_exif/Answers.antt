use Rattle.std.proofs.Common.{sym, subst}
use Rattle.px_bytes.specs.Parts.{limit}
use Rattle.px_engine.specs.declared.kind.BlockKind.TheVariants as kind
use Rattle.px_engine.specs.Input.{IsFaultyIn}
use Rattle.px_engine.proofs.Judged.{exif_judged, exif_long}
use Rattle.px_engine.proofs.meaning.judge_exif.Goals as goal

pub returns-in-Ok-clause-meaning : goal.returns-in-Ok-clause-meaning
returns-in-Ok-clause-meaning c =
    exif_judged c.args.bytes.now c.in-Ok.block c.in-Ok.ensures.0 c.normal_bound.ensures (λ k. (c.type_inv.bytes k).fits)
    c.judge_block_in.result c.judge_block_in.ensures.meaning

pub returns-in-Err-clause-refused : goal.returns-in-Err-clause-refused
returns-in-Err-clause-refused c =
    rw c.at.ensures (subst (λ z. IsFaultyIn kind.Exif c.args.bytes.now z limit) (sym c.in-Err.ensures.0)
    (exif_long c.args.bytes.now c.faults_decide.ensures c.in-Err.ensures.1))
