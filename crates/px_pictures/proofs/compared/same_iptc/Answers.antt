use Rattle.px_iim.specs.Group.{Record}
use Rattle.px_iim.specs.Record.{SaysIim}
use Rattle.px_pictures.proofs.PairLaws.{both_has_meaning}
use Rattle.px_pictures.proofs.compared.same_iptc.Goals as goal

pub returns-clause-same : goal.returns-clause-same
returns-clause-same c =
    both_has_meaning Record SaysIim c.records-same.result c.args.first.now c.args.second.now c.in_ok-iim.iim c.in_ok-iim.ensures.meaning
    c.records-same.ensures.same
