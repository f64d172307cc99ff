use Rattle.std.proofs.Common.{◌≡◌, ℕ, length, drop, sym, ap, subst, arith, length-drop}
use Rattle.std.specs.Str.{StartsWithNoChar, valid_up_to}
use Rattle.px_xmp_text.proofs.CharacterLaws.{none_after, none_in_nothing}
use Rattle.px_xmp_text.proofs.characters.text_at_start.Goals as goal

pub returns-in-Ok-clause-none : goal.returns-in-Ok-clause-none
returns-in-Ok-clause-none c =
    let n = length c.in-Ok.text.now in
    let x = c.args.octets.now in
    none_in_nothing (drop n x) (omega (arith, length-drop n x, ap length c.in-Ok.ensures.cases.0))

pub returns-in-Ok-from_utf8-clause-none : goal.returns-in-Ok-from_utf8-clause-none
returns-in-Ok-from_utf8-clause-none c =
    let n = length c.in-Ok-from_utf8.text.now in
    let x = c.args.octets.now in
    let m = valid_up_to c.in-Err.error in
    let same : n ≡ m = omega (arith, ap length c.in-Ok-from_utf8.ensures.cases.0, c.split_at.ensures.front_len, c.valid_up_to.ensures) in
    subst (λ (j : ℕ). StartsWithNoChar (drop j x)) (sym same) (none_after x m c.in-Err.ensures.cases.1)
