use Rattle.px_runs.proofs.Logged as logged
use Rattle.px_runs.proofs.laws.only_calls.Goals as goal

pub returns : goal.returns
returns g c log logs asked files files_now allocs allocs_now status input out lines ended =
    logged.words_called g.O.Reader.Read.remaining g.O.Writer.Write.contents g.O.Opens.opens g.O.Opens.makes g.O.Opens.closes log logs
    asked files files_now allocs allocs_now status input out lines ended
