use Rattle.std.proofs.Common.{sym, ap, ◌∙◌, ℕ, false, get_or}
use Rattle.px_xmp_marks.proofs.LocalLaws.{new_key}
use Rattle.px_xmp_marks.specs.Reading.{attribute_view}
use Rattle.std.proofs.Common.{map}
use Rattle.px_xmp_marks.proofs.locals.is_noted.Goals as goal

pub returns-then-not-seen-place : goal.returns-then-not-seen-place
returns-then-not-seen-place c h =
    let same = c.requires.key in
    sym (new_key c.args.seen.now c.args.local.now (map attribute_view c.args.attributes.now)
    (ap (λ (k : ℕ). get_or c.args.seen.now k false) (sym same) ∙ c.if-not-seen-place.true) h)
