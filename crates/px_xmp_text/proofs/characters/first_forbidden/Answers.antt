use Rattle.std.proofs.Common.{sym, ap, ◌∙◌}
use Rattle.px_xmp_text.specs.calls.Usual.{are_usual}
use Rattle.px_xmp_text.proofs.UsualLaws.{usual_characters}
use Rattle.px_xmp_text.proofs.characters.first_forbidden.Goals as goal

pub returns-then-are_usual : goal.returns-then-are_usual
returns-then-are_usual c =
    usual_characters c.args.text.now c.utf8.text (ap (are_usual 0) (sym c.as_bytes.ensures.value) ∙ sym c.are_usual.ensures ∙ c.if-are_usual.true)
