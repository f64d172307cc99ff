use Rattle.std.specs.Prelude.{⊤}
use Rattle.std.proofs.Common.{◌++◌, ◌∙◌, append-nil, List, ℕ, Err, subst}
use Rattle.std.proofs.lemmas.Result.{err_from_is_err_and}
use Rattle.px_xmp.specs.Accepted.{PacketFits}
use Rattle.px_xmp_text.specs.Values.{packet_end}
use Rattle.px_xmp_pictures.specs.Counts.{unjoined, IfLeft}
use Rattle.px_xmp_pictures.proofs.LeftLaws.{refused_fits}
use Rattle.px_xmp_pictures.proofs.joining.check_outermost.Goals as goal

pub returns-in_err-check_in-clause-left : goal.returns-in_err-check_in-clause-left
returns-in_err-check_in-clause-left c =
    let failed = c.from_residual-in_err-check_in in
    let p = err_from_is_err_and failed.result failed.ensures.1 in
    let e = c.in_err-check_in.field-0.0 in
    rw (p.1, p.2) (subst (λ (z : List ℕ). IfLeft {X = ⊤} (Err (unjoined e)) (PacketFits z → ⊥))
    (c.as_slice.ensures.value ∙ c.in_ok-packet.ensures.joined ∙ append-nil (c.args.front.now ++ packet_end))
    (refused_fits ⊤ ⊤ e c.as_slice.result.now c.in_err-check_in.ensures.accepts))
