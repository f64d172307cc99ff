use Rattle.std.proofs.Common.{◌∙◌, sym}
use Rattle.px_pictures.proofs.PlaceLaws.{none_joined}
use Rattle.px_pictures.proofs.joining.join_in.Goals as goal

pub returns-then-size-eq0-clause-joined : goal.returns-then-size-eq0-clause-joined
returns-then-size-eq0-clause-joined c =
    c.list-octets.ensures.items
    ∙ sym (none_joined c.args.front.now.octets c.args.front.now.parts (sym c.requires.all ∙ c.if-size-eq0.true))
