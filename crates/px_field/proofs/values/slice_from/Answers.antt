use Rattle.std.proofs.Common.{◌*◌, length, drop, ap, ◌∙◌, arith}
use Rattle.std.proofs.lemmas.Slice.{between_to_end}
use Rattle.px_field.proofs.values.slice_from.Goals as goal

pub returns-clause-value : goal.returns-clause-value
returns-clause-value c =
    let raw = c.args.raw.now in
    between_to_end raw (c.args.i * c.size.result) (length raw) (omega arith) ∙ ap (λ n. drop (c.args.i * n) raw) c.size.ensures
