use Rattle.std.proofs.Common.{Option, ◌++◌, refl, inr, subst}
use Rattle.std.proofs.lemmas.Result.{err_from_is_err_and}
use Rattle.std.specs.Bool.{⊤}
use Rattle.px_xmp.specs.declared.elements.Opened.{Opened}
use Rattle.px_xmp.specs.calls.Steps.{TagAfter}
use Rattle.px_xmp.proofs.RefusedLaws.{enter_after, white_inside}
use Rattle.px_xmp.proofs.AheadLaws.{memory_says}
use Rattle.px_xmp.proofs.TagAheadLaws.{white_tag}
use Rattle.px_xmp.proofs.source.Source.read_end.Goals as goal

-- no start tag is in white space
pub returns-in-Some-clause-accepts : goal.returns-in-Some-clause-accepts
returns-in-Some-clause-accepts c nodes y left blank (e, row, ends) =
    let (white, is_white, tag) = c.in_ok-opened.ensures.read left in
    let after = subst (λ (z : Option Opened). TagAfter z white c.args.self.now c.next_tag.new.self) c.in-Some.is tag in
    let (t, start) = after.is in
    absurd (white_inside c.in-Some.opened white t nodes c.args.self.now c.next_tag.new.self (e ++ y)
    (enter_after c.kinds_are_read.ensures c.in-Some.opened white t nodes c.args.self.now c.next_tag.new.self (e ++ y) is_white after start row
    (inr (e, y, ends, refl))) blank)

pub returns-in_err-opened-clause-accepts : goal.returns-in_err-opened-clause-accepts
returns-in_err-opened-clause-accepts c nodes y left blank (e, row, ends) =
    let p = err_from_is_err_and c.from_residual.result c.from_residual.ensures.1 in
    rw (p.1, p.2) (memory_says (Option Opened) ⊤ c.in_err-opened.field-0.0 (c.in_err-opened.ensures.accepts nodes (e ++ y) left row
    (white_tag nodes (e ++ y) y blank (e, ends, refl))))
