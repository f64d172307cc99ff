use Rattle.std.proofs.Common.{◌≡◌, ◌+◌, ◌∙◌, [], take, refl, arith, ap, rules}
use Rattle.std.proofs.lemmas.List.{take_all}
use Rattle.std.proofs.lemmas.Result.{err_from_is_err_and}
use Rattle.hex.specs.Hex.{encode_lower}
use Rattle.px_text.proofs.texts.put_hex.Goals as goal
use Rattle.px_text.proofs.Chains.{none_yet, owes_as}
use Rattle.px_text.proofs.Parts.{encode_none, hex_next, hex_stop}

pub loop-at-init : goal.loop-at-init
loop-at-init g c = record { inside = omega arith; owes = none_yet _ c.args.pending.now (encode_lower []) encode_none; count = refl }

pub loop-at-preserved : goal.loop-at-preserved
loop-at-preserved g c = record {
  inside = omega arith;
  owes = hex_next _ _ _ c.args.pending.now c.loop-at.pending c.put_piece.new.pending c.args.bytes.now c.loop-at.at (c.loop-at.at +
      c.min.result) (omega arith) c.loop-at.invariant.owes c.in_ok-put_piece.ensures.0;
  count = c.in_ok-put_piece.ensures.1 ∙ c.loop-at.invariant.count;
}

pub returns-in_err-put_piece : goal.returns-in_err-put_piece
returns-in_err-put_piece g c =
    let p = err_from_is_err_and c.from_residual.result c.from_residual.ensures.1 in
    rw p.1 (
      hex_stop _ _ _ c.args.pending.now c.loop-at.pending c.args.bytes.now c.loop-at.at (c.loop-at.at + c.min.result) (omega arith)
          c.loop-at.invariant.owes c.in_err-put_piece.ensures.0,
      search rules,
    )

pub returns : goal.returns
returns g c =
    let all : take c.loop-at.at c.args.bytes.now ≡ c.args.bytes.now = take_all c.loop-at.at c.args.bytes.now (omega arith) in (
      owes_as _ _ c.args.pending.now c.loop-at.pending (encode_lower (take c.loop-at.at c.args.bytes.now)) (encode_lower c.args.bytes.now)
          (ap encode_lower all) c.loop-at.invariant.owes,
      search rules,
    )
