use Rattle.std.proofs.Common.{sym}
use Rattle.px_xmp_forms.proofs.FormLaws.{without_from, without_append, without_front, without_back, both_has}
use Rattle.px_xmp_forms.proofs.labels.is_property.Goals as goal

pub returns-then-has : goal.returns-then-has
returns-then-has c = (λ e. absurd (cc), λ h. absurd (both_has 34 c.args.name.space.now c.if-has.ensures h.0))

pub returns-then-has-2 : goal.returns-then-has-2
returns-then-has-2 c =
    let n = c.args.name in
    (λ e. absurd (cc), λ h. absurd (both_has 32 n.head.now c.if-has-2.ensures (without_front 32 n.head.now n.local.now h.1)))

pub returns-then-has-3 : goal.returns-then-has-3
returns-then-has-3 c =
    let n = c.args.name in
    (λ e. absurd (cc), λ h. absurd (both_has 32 n.local.now c.if-has-3.ensures (without_back 32 n.head.now n.local.now h.1)))

pub returns : goal.returns
returns c =
    let n = c.args.name in (
      λ e. (
        without_from 34 n.space.now (sym c.if-has.ensures),
        without_append 32 n.head.now n.local.now (without_from 32 n.head.now (sym c.if-has-2.ensures))
            (without_from 32 n.local.now (sym c.if-has-3.ensures)),
      ),
      λ h. cc,
    )
