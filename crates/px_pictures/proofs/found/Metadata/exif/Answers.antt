use Rattle.px_pictures.proofs.Inside.{head_front, front_inside}
use Rattle.px_pictures.proofs.found.Metadata.exif.Goals as goal

pub runs_of-requires-clause-inside : goal.runs_of-requires-clause-inside
runs_of-requires-clause-inside c =
    front_inside c.self.inside.front.octets c.self.inside.front.parts
    (head_front c.self.inside.front.octets c.self.inside.front.parts c.self.invariant.0)
