use Rattle.std.proofs.Common.{List, ℕ, Bor}
use Rattle.px_xmp_pictures.proofs.JoinedLaws.{properties_inside}
use Rattle.px_xmp_pictures.proofs.joining.properties_of.Goals as goal

pub returns-in-Some : goal.returns-in-Some
returns-in-Some c =
    properties_inside c.before-in-Some.result (λ (z : Bor (List ℕ)). z.now) c.args.form.now c.in-Some.rest.now c.in-Some.ensures
    c.before-in-Some.ensures
