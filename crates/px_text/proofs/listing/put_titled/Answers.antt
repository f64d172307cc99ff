use Rattle.std.proofs.lemmas.Result.{err_from_is_err_and}
use Rattle.px_bytes.specs.lemmas.WaitingLaws.{puts_both, puts_first}
use Rattle.px_text.specs.Listing.{field_lines}
use Rattle.px_text.proofs.Chains.{can_fail, counts_from_eq}
use Rattle.px_text.proofs.listing.put_titled.Goals as goal

pub returns : goal.returns
returns g c =
    let buffer = c.args.pending.now in
    let second = field_lines c.args.fields.now in (
      puts_both c.put_fields.result _ _ _ buffer c.put.new.self c.put_fields.new.pending c.args.name.now second c.in_ok-put.ensures.bytes
          c.put_fields.ensures.0,
      counts_from_eq c.put_fields.result _ _ _ c.in_ok-put.ensures.count c.put_fields.ensures.1,
    )

pub put-requires : goal.put-requires
put-requires g c = c.requires

pub returns-in_err-put : goal.returns-in_err-put
returns-in_err-put g c =
    let p = err_from_is_err_and c.from_residual.result c.from_residual.ensures.1 in
    rw p.1 (
      puts_first _ _ c.args.pending.now c.args.name.now (field_lines c.args.fields.now) c.in_err-put.ensures.bytes,
      c.in_err-put.ensures.count,
    )

pub put_fields-requires : goal.put_fields-requires
put_fields-requires g c = can_fail _ _ c.in_ok-put.ensures.count c.requires
