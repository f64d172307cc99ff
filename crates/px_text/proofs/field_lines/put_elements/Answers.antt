use Rattle.std.proofs.Common.{◌∙◌, ◌++◌, [], refl, arith}
use Rattle.std.proofs.lemmas.Result.{err_from_is_err_and}
use Rattle.std.specs.Prelude.{codes}
use Rattle.px_bytes.specs.lemmas.WaitingLaws.{owed_more, owed_stop}
use Rattle.px_field.specs.declared.Element.{Element}
use Rattle.px_text.specs.Listing.{element_text}
use Rattle.px_text.proofs.Chains.{all_put, can_fail, failures_suc, none_yet}
use Rattle.px_text.proofs.field_lines.put_elements.Goals as goal

pub returns-in_err-put_apart : goal.returns-in_err-put_apart
returns-in_err-put_apart g c =
    let p = err_from_is_err_and c.from_residual.result c.from_residual.ensures.1 in
    rw p.1 (
      owed_stop (λ (e : Element). codes " " ++ element_text e) c.args.value.now.elements c.loop-i.i c.element.result
          c.element.ensures.element
          _ _ _ c.args.pending.now c.loop-i.pending c.loop-i.invariant.owes c.in_err-put_apart.ensures.0,
      failures_suc _ _ _ c.loop-i.invariant.count c.in_err-put_apart.ensures.1,
    )

pub loop-i-preserved : goal.loop-i-preserved
loop-i-preserved g c = record {
  owes = owed_more (λ (e : Element). codes " " ++ element_text e) c.args.value.now.elements c.loop-i.i c.element.result
      c.element.ensures.element
      _ _ _ c.args.pending.now c.loop-i.pending c.put_apart.new.pending c.loop-i.invariant.owes c.in_ok-put_apart.ensures.0;
  count = c.in_ok-put_apart.ensures.1 ∙ c.loop-i.invariant.count;
}

pub put_apart-requires : goal.put_apart-requires
put_apart-requires g c = can_fail _ _ c.loop-i.invariant.count c.requires

pub returns : goal.returns
returns g c = (
  all_put (λ (e : Element). codes " " ++ element_text e) c.args.value.now.elements c.loop-i.i
      (omega arith) _ _ c.args.pending.now c.loop-i.pending
      c.loop-i.invariant.owes,
  c.loop-i.invariant.count,
)

pub loop-i-init : goal.loop-i-init
loop-i-init g c = record { owes = none_yet _ c.args.pending.now [] refl; count = refl }
