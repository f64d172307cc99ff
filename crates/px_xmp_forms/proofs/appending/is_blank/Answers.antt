use Rattle.std.proofs.Common.{◌≤◌, ◌∙◌, arith, length, sym, eqb-true}
use Rattle.std.proofs.lemmas.Bool.{eqb-false}
use Rattle.px_xmp_forms.proofs.BlankLaws.{blank_stops, blank_goes_on, blank_ends}
use Rattle.px_xmp_forms.proofs.appending.is_blank.Goals as goal

pub returns-then-len-eq0 : goal.returns-then-len-eq0
returns-then-len-eq0 c t e =
    let (u, f, g) = c.loop-rest.invariant t e in
    let not_none = eqb-false (length c.loop-rest.rest.now) 0 (sym c.loop-rest-test.ensures) in
    let some : 1 ≤ length c.loop-rest.rest.now = omega arith in
    blank_stops _ u t _ f g some c.space_len-len.ensures.value c.if-len-eq0.true

pub loop-rest-preserved : goal.loop-rest-preserved
loop-rest-preserved c t e =
    let (u, f, g) = c.loop-rest.invariant t e in
    let not_none = eqb-false (length c.loop-rest.rest.now) 0 (sym c.loop-rest-test.ensures) in
    let some : 1 ≤ length c.loop-rest.rest.now = omega arith in
    let (v, h, w) = blank_goes_on _ u t _ f g some c.space_len-len.ensures.value c.if-len-eq0.false in
    (v, c.split_at.ensures.back ∙ h, w)

pub returns : goal.returns
returns c t e =
    let (u, f, g) = c.loop-rest.invariant t e in
    let none = eqb-true (length c.loop-rest.rest.now) 0 (sym c.loop-rest-test.ensures) in
    let few : length c.loop-rest.rest.now ≤ 0 = omega arith in blank_ends _ u t f g few
