use Rattle.std.proofs.Common.{sym, arith}
use Rattle.px_field.specs.lemmas.ValueLaws.{encoded_value_in}
use Rattle.px_field.proofs.values.read_value.Goals as goal

pub returns-clause-encodes : goal.returns-clause-encodes
returns-clause-encodes c =
    sym (encoded_value_in c.args.order c.args.form c.args.raw.now c.requires.whole (λ i. omega (arith, c.type_inv.raw i)))
