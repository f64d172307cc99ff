use Rattle.px_runs.proofs.EndLaws.{leaves_second}
use Rattle.px_runs.proofs.job.run_compare_in.Goals as goal

pub returns-clause-ends : goal.returns-clause-ends
returns-clause-ends g c = (
  c.compare_in.result,
  c.compare_in.ensures.done,
  c.compare_in.ensures.reads,
  (
    c.compare_in.ensures.memory,
    c.compare_in.ensures.asked,
    c.compare_in.ensures.lost,
    c.compare_in.ensures.lost_too,
    leaves_second g.S.Device.calls g.S.Source.bytes_left c.compare_in.result c.args.second.now c.compare_in.new.second
        c.compare_in.ensures.untouched,
  ),
  c.report_compared.ensures.reported,
)
