use Rattle.std.proofs.Common.{rules}
use Rattle.std.proofs.lemmas.Result.{err_from_is_err_and}
use Rattle.px_bytes.specs.lemmas.WaitingLaws.{puts_both, puts_first}
use Rattle.px_text.specs.Words.{sized_bytes}
use Rattle.px_text.proofs.listing.put_part.Goals as goal

pub returns-in_err-put : goal.returns-in_err-put
returns-in_err-put g c =
    let p = err_from_is_err_and c.from_residual.result c.from_residual.ensures.1 in
    rw p.1 (puts_first _ _ c.args.pending.now c.args.word.now (sized_bytes c.args.bytes.now) c.in_err-put.ensures.bytes, search rules)

pub returns : goal.returns
returns g c = (
  puts_both c.put_sized.result _ _ _ c.args.pending.now c.put.new.self c.put_sized.new.pending c.args.word.now
      (sized_bytes c.args.bytes.now) c.in_ok-put.ensures.bytes c.put_sized.ensures.0,
  search rules,
)
