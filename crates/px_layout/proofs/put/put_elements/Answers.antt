use Rattle.std.proofs.Common.{[], refl}
use Rattle.std.proofs.KnownBytes.{Appends-nil}
use Rattle.px_field.specs.Values.{encoded}
use Rattle.px_layout.proofs.put.put_elements.Goals as goal

pub returns-then-size-free : goal.returns-then-size-free
unfolding encoded
returns-then-size-free g c =
    ((([], Appends-nil (g.W.Sink.bytes_taken c.args.writer.now), c.put_encoded.ensures), λ f. (c.put_encoded.ensures, refl)), refl)
