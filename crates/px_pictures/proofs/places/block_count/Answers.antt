use Rattle.std.proofs.Common.{◌∙◌}
use Rattle.px_pictures.proofs.PlaceLaws.{count_placed}
use Rattle.px_pictures.proofs.places.block_count.Goals as goal

pub returns : goal.returns
returns c =
    c.count_places.ensures ∙ count_placed c.args.front.now.octets c.args.front.now.parts c.places_of.result c.places_of.ensures
