use Rattle.px_runs.proofs.laws.known_outputs_decide.Goals as goal

pub returns : goal.returns
returns g c f h file out other_file other_out files files_now other_files other_files_now allocs allocs_now other_allocs other_allocs_now
    lines other_lines has other_has x y =
    let known = g.met.O.KnownFiles in
    let t = c.outputs_decide.ensures f h file out other_file other_out files files_now other_files other_files_now allocs allocs_now other_allocs
    other_allocs_now lines other_lines (λ reader opened o. known.opened files opened file f reader has o)
    (λ reader opened o. known.opened other_files opened other_file h reader other_has o) x y in
    let r = t.2 in
    let s = t.3 in (
      t.0,
      t.1,
      known.received r.0 r.1 files_now out t.0 r.2 r.3 r.4 r.5 r.6 r.7,
      known.received s.0 s.1 other_files_now other_out t.1 s.2 s.3 s.4 s.5 s.6 s.7,
      t.4,
    )
