use Rattle.std.proofs.Common.{arith, sym, ap, not, ◌∙◌}
use Rattle.px_xmp_marks.proofs.PlainLaws.{tight_eq}
use Rattle.px_xmp_marks.proofs.attributes.begins_with_eq.Goals as goal

pub returns-clause-eq : goal.returns-clause-eq
returns-clause-eq c = λ h.
    tight_eq c.args.octets.now (omega (arith, c.if-octets-lt2.false)) c.if-octets-ne61.false (sym (ap not c.is_space.ensures) ∙ h)
