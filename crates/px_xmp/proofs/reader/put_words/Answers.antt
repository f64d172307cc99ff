use Rattle.std.proofs.Common.{length, subst}
use Rattle.px_xmp_text.specs.Texts.{normal_text}
use Rattle.px_xmp.specs.declared.marks.MarkKind.{MarkKind}
use Rattle.px_xmp.specs.Reading.{kind_view}
use Rattle.px_xmp.specs.calls.Fits.{WordsFit}
use Rattle.px_xmp.proofs.LiteralLaws.{no_other_kind}
use Rattle.px_xmp.proofs.reader.put_words.Goals as goal

pub returns-in-Text-clause-accepts : goal.returns-in-Text-clause-accepts
returns-in-Text-clause-accepts c s o os has opened fits =
    c.put_text.ensures.accepts s o os has opened (subst (λ (z : MarkKind). WordsFit (kind_view z) (length (normal_text o.text))) c.in-Text.is fits)

pub returns-in_default-clause-accepts : goal.returns-in_default-clause-accepts
returns-in_default-clause-accepts c s o os has opened fits =
    absurd (no_other_kind c.args.kind (length (normal_text o.text)) c.in_default.not-Text c.in_default.not-Other fits)
