use Rattle.std.proofs.Common.{ap, arith, length, length-drop}
use Rattle.px_xmp.proofs.AroundLaws.{around_on}
use Rattle.px_xmp.proofs.packet.around_len.Goals as goal

pub pieces-preserved : goal.pieces-preserved
pieces-preserved c =
    let (pieces, are) = c.pieces.invariant.around in
    record {
      within = omega (
        arith,
        c.piece_len-len.ensures.within,
        ap length c.split_at.ensures.back,
        length-drop c.pieces.at c.args.packet.now,
        c.pieces.invariant.within,
      );
      around = around_on pieces c.args.packet.now c.split_at.result.1.now c.pieces.at c.piece_len-len.result c.split_at.ensures.back are
          c.piece_len-len.ensures.piece (λ e. omega (arith, e, c.if-len-eq0.false));
    }
