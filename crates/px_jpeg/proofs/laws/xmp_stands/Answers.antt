use Rattle.px_jpeg.proofs.XmpLaws.{xmp_stands}
use Rattle.px_jpeg.proofs.laws.xmp_stands.Goals as goal

pub returns : goal.returns
returns c = xmp_stands
