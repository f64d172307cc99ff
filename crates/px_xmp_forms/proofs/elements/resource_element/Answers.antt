use Rattle.std.proofs.Common.{◌≤◌, ◌+◌, ◌∙◌, ℕ, List, sym, ap, subst, arith, length, length-append}
use Rattle.std.proofs.lemmas.Result.{err_from_is_err_and}
use Rattle.px_xmp_text.specs.Values.{Without}
use Rattle.px_xmp_forms.specs.Forms.{most}
use Rattle.px_xmp_forms.proofs.FormLaws.{uri_written, without_from, both_has, normal_without}
use Rattle.px_xmp_forms.proofs.ElementLaws.{uri_element_is, uri_length}
use Rattle.px_xmp_forms.specs.Labels.{label_view}
use Rattle.px_xmp_forms.proofs.elements.resource_element.Goals as goal

pub of-requires : goal.of-requires
of-requires c =
    uri_written (label_view c.args.label) c.octets-uri.result.now c.reserve.new.out.items c.append_label.new.out.items c.append.new.out.items
    c.append-2.new.out.items c.append-3.new.out.items c.requires (without_from 34 c.octets-uri.result.now (sym c.if-has.ensures)) c.octets-uri.ensures.form
    (c.in_ok-reserve.ensures.items ∙ c.list-octets.ensures.items) c.in_ok-append_label.ensures.items c.in_ok-append.ensures.items c.in_ok-append-2.ensures.items
    c.in_ok-append-3.ensures.items

pub returns-clause-value : goal.returns-clause-value
returns-clause-value c t e =
    uri_element_is _ (label_view c.args.label) c.octets-uri.result.now c.reserve.new.out.items c.append_label.new.out.items c.append.new.out.items
    c.append-2.new.out.items c.append-3.new.out.items t c.requires (without_from 34 c.octets-uri.result.now (sym c.if-has.ensures))
    (c.octets-uri.ensures.value ∙ e) (c.in_ok-reserve.ensures.items ∙ c.list-octets.ensures.items) c.in_ok-append_label.ensures.items
    c.in_ok-append.ensures.items c.in_ok-append-2.ensures.items c.in_ok-append-3.ensures.items c.of.ensures (ap length c.as_slice-label_len.ensures.value)

pub returns-then-has-clause-accepts : goal.returns-then-has-clause-accepts
returns-then-has-clause-accepts c t e fits =
    let P : List ℕ → Type 0 = λ z. Without 34 z in
    absurd (both_has 34 c.octets-uri.result.now c.if-has.ensures
    (subst P (sym (c.octets-uri.ensures.value ∙ e)) (normal_without t fits.0.1)))

pub returns-in_err-append-3-clause-accepts : goal.returns-in_err-append-3-clause-accepts
returns-in_err-append-3-clause-accepts c t e fits =
    let n = uri_length (label_view c.args.label) t in
    let few : length c.append-2.new.out.items + 3 ≤ most =
    omega (
      arith,
      n,
      fits.1,
      ap length (c.octets-uri.ensures.value ∙ e),
      ap length (c.in_ok-reserve.ensures.items ∙ c.list-octets.ensures.items),
      ap length c.in_ok-append_label.ensures.items,
      ap length c.in_ok-append.ensures.items,
      ap length c.in_ok-append-2.ensures.items,
      length-append {A = ℕ},
    ) in
    let p = err_from_is_err_and c.from_residual-in_err-append-3.result c.from_residual-in_err-append-3.ensures.1 in
    rw (p.1, p.2) (c.in_err-append-3.ensures.accepts few)
