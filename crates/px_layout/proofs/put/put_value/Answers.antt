use Rattle.std.proofs.Common.{rules}
use Rattle.px_field.specs.Values.{encoded}
use Rattle.px_layout.proofs.put.put_value.Goals as goal

pub returns : goal.returns
unfolding encoded
returns g c =
    (c.put_elements.ensures.0, search rules)
