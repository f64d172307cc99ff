use Rattle.std.proofs.Common.{length, arith, ◌∙◌}
use Rattle.px_iim.specs.Record.{normal_iim}
use Rattle.px_iim.proofs.writing.Writes.{within_number, reserve_asks}
use Rattle.px_iim.proofs.write.append_iim_in.Goals as goal

pub append_record-result-requires : goal.append_record-result-requires
append_record-result-requires c =
    let n = within_number c.normal_len.result (length (normal_iim c.args.iim.now)) c.unwrap_or.result c.normal_len.ensures
    c.unwrap_or.ensures c.requires in
    omega (arith, n, c.in_ok-reserve.ensures.space, c.in_ok-reserve.ensures.len)
