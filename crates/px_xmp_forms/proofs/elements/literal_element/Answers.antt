use Rattle.std.proofs.Common.{◌≤◌, ◌+◌, ◌∙◌, [], ℕ, ap, arith, length, length-append, min, vec_capacity}
use Rattle.std.proofs.lemmas.Result.{err_from_is_err_and}
use Rattle.std.specs.Str.{str_to_ascii_lowercase}
use Rattle.px_xmp_forms.proofs.FormLaws.{literal_written}
use Rattle.px_xmp_text.specs.Values.{opening_tag, end_tag}
use Rattle.px_xmp_forms.specs.Forms.{most, language_octets}
use Rattle.px_xmp_forms.proofs.ElementLaws.{literal_element_is, literal_length, lower_octets}
use Rattle.px_xmp_forms.specs.Labels.{label_view}
use Rattle.px_xmp_forms.proofs.elements.literal_element.Goals as goal

pub of-requires : goal.of-requires
of-requires c =
    literal_written (label_view c.args.label) (str_to_ascii_lowercase c.args.language.now) c.args.content.now c.reserve.new.out.items
    c.append_label.new.out.items c.append_language.new.out.items c.append.new.out.items c.append_label_end.new.out.items c.requires.label
    c.in_ok-append_language.ensures.can c.requires.form (c.in_ok-reserve.ensures.items ∙ c.list-octets.ensures.items)
    c.in_ok-append_label.ensures.items c.in_ok-append_language.ensures.items c.in_ok-append.ensures.items c.in_ok-append_label_end.ensures.items

pub returns-clause-value : goal.returns-clause-value
returns-clause-value c t e =
    literal_element_is _ (label_view c.args.label) (str_to_ascii_lowercase c.args.language.now) c.args.content.now c.reserve.new.out.items
    c.append_label.new.out.items c.append_language.new.out.items c.append.new.out.items c.append_label_end.new.out.items t c.requires.label
    c.in_ok-append_language.ensures.can c.in_ok-append_language.ensures.short e (c.in_ok-reserve.ensures.items ∙ c.list-octets.ensures.items)
    c.in_ok-append_label.ensures.items c.in_ok-append_language.ensures.items c.in_ok-append.ensures.items c.in_ok-append_label_end.ensures.items c.of.ensures (ap length c.as_slice-label_len.ensures.value)

pub returns-in_err-append_label_end-clause-accepts : goal.returns-in_err-append_label_end-clause-accepts
returns-in_err-append_label_end-clause-accepts c t e fits =
    let l = label_view c.args.label in
    let few : length c.append.new.out.items + length (end_tag l []) ≤ most =
    omega (
      arith,
      literal_length l (str_to_ascii_lowercase c.args.language.now) t,
      fits.1,
      ap length e,
      ap length (c.in_ok-reserve.ensures.items ∙ c.list-octets.ensures.items),
      ap length c.in_ok-append_label.ensures.items,
      ap length c.in_ok-append_language.ensures.items,
      ap length c.in_ok-append.ensures.items,
      length-append {A = ℕ},
    ) in
    let p = err_from_is_err_and c.from_residual-in_err-append_label_end.result c.from_residual-in_err-append_label_end.ensures.1 in
    rw (p.1, p.2) (c.in_err-append_label_end.ensures.accepts few)

pub returns-in_err-append-clause-asked : goal.returns-in_err-append-clause-asked
returns-in_err-append-clause-asked c =
    let l = label_view c.args.label in
    let y = c.args.language.now in
    let lower = lower_octets y in
    let size : min most (length (opening_tag l []) + length (end_tag l []) + length (language_octets y) + length c.args.content.now) ≤ vec_capacity c.reserve.new.out =
    omega (arith, c.in_ok-reserve.ensures.space, c.element_size.ensures.enough, c.text_size.ensures.enough) in
    let empty = ap length (c.in_ok-reserve.ensures.items ∙ c.list-octets.ensures.items) in
    let tag = ap length c.in_ok-append_label.ensures.items ∙ length-append c.reserve.new.out.items (opening_tag l []) in
    let first = c.append_label.ensures.fits (omega (arith, size, empty)) in
    let second = c.append_language.ensures.asked (omega (arith, size, empty, tag, c.append_label.ensures.capacity)) in
    let language = ap length c.in_ok-append_language.ensures.items ∙ length-append c.append_label.new.out.items (language_octets (str_to_ascii_lowercase y)) in
    let third = c.append.ensures.fits (omega (arith, size, empty, tag, language, lower, c.append_label.ensures.capacity, c.append_language.ensures.capacity)) in
    omega (arith, c.reserve.ensures.asked, c.list-octets.ensures.len, c.element_size.ensures.bound, c.text_size.ensures.bound, first, second, third)

pub returns-in_err-append_label_end-clause-asked : goal.returns-in_err-append_label_end-clause-asked
returns-in_err-append_label_end-clause-asked c =
    let l = label_view c.args.label in
    let y = c.args.language.now in
    let lower = lower_octets y in
    let size : min most (length (opening_tag l []) + length (end_tag l []) + length (language_octets y) + length c.args.content.now) ≤ vec_capacity c.reserve.new.out =
    omega (arith, c.in_ok-reserve.ensures.space, c.element_size.ensures.enough, c.text_size.ensures.enough) in
    let empty = ap length (c.in_ok-reserve.ensures.items ∙ c.list-octets.ensures.items) in
    let tag = ap length c.in_ok-append_label.ensures.items ∙ length-append c.reserve.new.out.items (opening_tag l []) in
    let first = c.append_label.ensures.fits (omega (arith, size, empty)) in
    let second = c.append_language.ensures.asked (omega (arith, size, empty, tag, c.append_label.ensures.capacity)) in
    let language = ap length c.in_ok-append_language.ensures.items ∙ length-append c.append_label.new.out.items (language_octets (str_to_ascii_lowercase y)) in
    let third = c.append.ensures.fits (omega (arith, size, empty, tag, language, lower, c.append_label.ensures.capacity, c.append_language.ensures.capacity)) in
    let text = ap length c.in_ok-append.ensures.items ∙ length-append c.append_language.new.out.items c.args.content.now in
    let fourth = c.append_label_end.ensures.fits (omega (arith, size, empty, tag, language, lower, text, c.append_label.ensures.capacity, c.append_language.ensures.capacity, c.append.ensures.capacity)) in
    omega (arith, c.reserve.ensures.asked, c.list-octets.ensures.len, c.element_size.ensures.bound, c.text_size.ensures.bound, first, second, third, fourth)

pub returns-clause-asked : goal.returns-clause-asked
returns-clause-asked c =
    let l = label_view c.args.label in
    let y = c.args.language.now in
    let lower = lower_octets y in
    let size : min most (length (opening_tag l []) + length (end_tag l []) + length (language_octets y) + length c.args.content.now) ≤ vec_capacity c.reserve.new.out =
    omega (arith, c.in_ok-reserve.ensures.space, c.element_size.ensures.enough, c.text_size.ensures.enough) in
    let empty = ap length (c.in_ok-reserve.ensures.items ∙ c.list-octets.ensures.items) in
    let tag = ap length c.in_ok-append_label.ensures.items ∙ length-append c.reserve.new.out.items (opening_tag l []) in
    let first = c.append_label.ensures.fits (omega (arith, size, empty)) in
    let second = c.append_language.ensures.asked (omega (arith, size, empty, tag, c.append_label.ensures.capacity)) in
    let language = ap length c.in_ok-append_language.ensures.items ∙ length-append c.append_label.new.out.items (language_octets (str_to_ascii_lowercase y)) in
    let third = c.append.ensures.fits (omega (arith, size, empty, tag, language, lower, c.append_label.ensures.capacity, c.append_language.ensures.capacity)) in
    let text = ap length c.in_ok-append.ensures.items ∙ length-append c.append_language.new.out.items c.args.content.now in
    let fourth = c.append_label_end.ensures.fits (omega (arith, size, empty, tag, language, lower, text, c.append_label.ensures.capacity, c.append_language.ensures.capacity, c.append.ensures.capacity)) in
    omega (arith, c.reserve.ensures.asked, c.list-octets.ensures.len, c.element_size.ensures.bound, c.text_size.ensures.bound, first, second, third, fourth)
