use Rattle.std.proofs.Common.{◌≤◌, ◌+◌, ◌++◌, ◌∙◌, List, ℕ, [], refl, sym, ap, subst, take, drop, arith, length, length-append}
use Rattle.std.proofs.lemmas.Result.{err_from_is_err_and}
use Rattle.px_xmp_text.specs.Values.{end_tag, compound_end}
use Rattle.px_xmp_forms.specs.Forms.{most, IsForm}
use Rattle.px_xmp_forms.proofs.FormLaws.{nested_written}
use Rattle.px_xmp_forms.proofs.ElementLaws.{around, nested_element_is, nested_length}
use Rattle.px_xmp_forms.specs.Labels.{label_view, compound_view}
use Rattle.px_xmp_forms.proofs.elements.nested_element.Goals as goal

pub between-requires : goal.between-requires
between-requires c form =
    let l = label_view c.args.label in
    let k = compound_view c.args.container in
    let b = c.append_start.new.out.items in
    let s = compound_end k [] in
    let t = end_tag l [] in
    let z = c.args.inner in
    let tags = c.in_ok-append_label_end.ensures.items ∙ ap (λ (w : List ℕ). w ++ t) c.in_ok-append_stop.ensures.items in
    let n = ap length c.as_slice-front_len.ensures.value in
    let m = length c.as_slice-front_len.result.now in
    let front = c.split_at.ensures.front ∙ ap (take m) c.as_slice.ensures.value in
    let back = c.split_at.ensures.back ∙ ap (drop m) c.as_slice.ensures.value in
    let P : List ℕ → Type 0 = λ x. IsForm x in
    subst P (sym (around b s t c.append_label_end.new.out.items _ _ z m tags n front back))
    (nested_written l k z c.reserve.new.out.items c.append_label.new.out.items b (b ++ z) (b ++ z ++ s) (b ++ z ++ s ++ t) c.requires form
    (c.in_ok-reserve.ensures.items ∙ c.list-tags.ensures.items) c.in_ok-append_label.ensures.items c.in_ok-append_start.ensures.items refl refl refl)

pub returns-clause-value : goal.returns-clause-value
returns-clause-value c d e h short =
    let l = label_view c.args.label in
    let k = compound_view c.args.container in
    let b = c.append_start.new.out.items in
    let s = compound_end k [] in
    let t = end_tag l [] in
    let z = c.args.inner in
    let tags = c.in_ok-append_label_end.ensures.items ∙ ap (λ (w : List ℕ). w ++ t) c.in_ok-append_stop.ensures.items in
    let n = ap length c.as_slice-front_len.ensures.value in
    let m = length c.as_slice-front_len.result.now in
    let front = c.split_at.ensures.front ∙ ap (take m) c.as_slice.ensures.value in
    let back = c.split_at.ensures.back ∙ ap (drop m) c.as_slice.ensures.value in
    nested_element_is _ l k d z c.reserve.new.out.items c.append_label.new.out.items b (b ++ z) (b ++ z ++ s) (b ++ z ++ s ++ t) c.requires h short e
    (c.in_ok-reserve.ensures.items ∙ c.list-tags.ensures.items) c.in_ok-append_label.ensures.items c.in_ok-append_start.ensures.items refl refl refl
    (c.in_ok-piece.ensures.value ∙ around b s t c.append_label_end.new.out.items _ _ z m tags n front back)
    (ap length c.as_slice-label_len.ensures.value)

pub returns-in_err-append_stop-clause-accepts : goal.returns-in_err-append_stop-clause-accepts
returns-in_err-append_stop-clause-accepts c d e fits =
    let n = nested_length (label_view c.args.label) (compound_view c.args.container) d in
    let few : length c.append_start.new.out.items + length (compound_end (compound_view c.args.container) []) ≤ most =
    omega (
      arith,
      n,
      fits.1,
      ap length (c.in_ok-reserve.ensures.items ∙ c.list-tags.ensures.items),
      ap length c.in_ok-append_label.ensures.items,
      ap length c.in_ok-append_start.ensures.items,
      length-append {A = ℕ},
    ) in
    let p = err_from_is_err_and c.from_residual-in_err-append_stop.result c.from_residual-in_err-append_stop.ensures.1 in
    rw (p.1, p.2) (c.in_err-append_stop.ensures.accepts few)

pub returns-in_err-append_label_end-clause-accepts : goal.returns-in_err-append_label_end-clause-accepts
returns-in_err-append_label_end-clause-accepts c d e fits =
    let n = nested_length (label_view c.args.label) (compound_view c.args.container) d in
    let few : length c.append_stop.new.out.items + length (end_tag (label_view c.args.label) []) ≤ most =
    omega (
      arith,
      n,
      fits.1,
      ap length (c.in_ok-reserve.ensures.items ∙ c.list-tags.ensures.items),
      ap length c.in_ok-append_label.ensures.items,
      ap length c.in_ok-append_start.ensures.items,
      ap length c.in_ok-append_stop.ensures.items,
      length-append {A = ℕ},
    ) in
    let p = err_from_is_err_and c.from_residual-in_err-append_label_end.result c.from_residual-in_err-append_label_end.ensures.1 in
    rw (p.1, p.2) (c.in_err-append_label_end.ensures.accepts few)

pub returns-in_err-piece-clause-accepts : goal.returns-in_err-piece-clause-accepts
returns-in_err-piece-clause-accepts c d e fits =
    let l = label_view c.args.label in
    let k = compound_view c.args.container in
    let b = c.append_start.new.out.items in
    let s = compound_end k [] in
    let t = end_tag l [] in
    let z = c.args.inner in
    let tags = c.in_ok-append_label_end.ensures.items ∙ ap (λ (w : List ℕ). w ++ t) c.in_ok-append_stop.ensures.items in
    let m = length c.as_slice-front_len.result.now in
    let front = c.split_at.ensures.front ∙ ap (take m) c.as_slice.ensures.value in
    let back = c.split_at.ensures.back ∙ ap (drop m) c.as_slice.ensures.value in
    let whole = around b s t c.append_label_end.new.out.items _ _ z m tags (ap length c.as_slice-front_len.ensures.value) front back in
    let few : length (c.split_at.result.0.now ++ z ++ c.split_at.result.1.now) ≤ most =
    omega (
      arith,
      nested_length l k d,
      fits.1,
      ap length whole,
      ap length e,
      ap length (c.in_ok-reserve.ensures.items ∙ c.list-tags.ensures.items),
      ap length c.in_ok-append_label.ensures.items,
      ap length c.in_ok-append_start.ensures.items,
      length-append {A = ℕ},
    ) in
    let p = err_from_is_err_and c.from_residual-in_err-piece.result c.from_residual-in_err-piece.ensures.1 in
    rw (p.1, p.2) (c.in_err-piece.ensures.accepts few)
