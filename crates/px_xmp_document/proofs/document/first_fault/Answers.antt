use Rattle.std.proofs.Common.{◌+◌, drop, ap, subst, ◌∙◌}
use Rattle.px_xmp_document.specs.Faults.{IsFault}
use Rattle.px_xmp_document.proofs.document.first_fault.Goals as goal

pub returns-in-Some : goal.returns-in-Some
returns-in-Some c =
    let x = c.args.octets.now in
    let f = c.in-Some.fault in
    let size = c.order_mark_len-size.ensures.value in (
      f.offset,
      subst (λ y. IsFault y f.cause f.offset) (c.split_at.ensures.back ∙ ap (λ k. drop k x) size) c.in-Some.ensures.fault,
      ap (λ k. k + f.offset) size,
    )
