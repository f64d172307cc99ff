use Rattle.std.proofs.Common.{◌≤◌, ◌∙◌, sym, arith}
use Rattle.std.proofs.lemmas.Bool.{cond-false}
use Rattle.px_iim.specs.DataSet.{top_bit}
use Rattle.px_iim.specs.Record.{form, extra}
use Rattle.px_iim.proofs.reading.Octets.{number_part, not_less}
use Rattle.px_iim.proofs.dataset.count.Goals as goal

pub returns : goal.returns
returns c =
    let x = c.args.octets.now in
    let high : top_bit ≤ form x = omega (arith, c.requires.pair, c.if-pair-lt-TOP_BIT.false) in
    c.number_of.ensures ∙ number_part x c.extra-extra.result (extra x) (c.extra-extra.ensures.value x c.requires.pair) c.requires.there
    ∙ sym (cond-false _ _ _ (not_less (form x) top_bit high))
