use Rattle.std.proofs.Common.{◌≤◌, ◌+◌, ◌++◌, ◌∙◌, refl, ap, arith, length, length-append, min, vec_capacity}
use Rattle.std.proofs.lemmas.Result.{err_from_is_err_and}
use Rattle.px_bytes.specs.Parts.{limit}
use Rattle.px_xmp_text.specs.Values.{packet_end}
use Rattle.px_xmp_forms.specs.Forms.{most}
use Rattle.px_xmp_forms.proofs.FormLaws.{packet_written, packet_is, packet_short}
use Rattle.px_xmp_forms.proofs.output.Output.whole.Goals as goal

pub returns-clause-normal : goal.returns-clause-normal
returns-clause-normal c =
    packet_written _ _ _ _ _ _ (c.in_ok-reserve.ensures.items ∙ c.list-form.ensures.items) c.in_ok-append.ensures.items c.in_ok-append-2.ensures.items
    c.in_ok-append-3.ensures.items c.in_ok-append-4.ensures.items c.octets-properties.ensures.form

pub returns-clause-value : goal.returns-clause-value
returns-clause-value c s h =
    packet_is _ _ _ _ _ _ s.properties (c.in_ok-reserve.ensures.items ∙ c.list-form.ensures.items) c.in_ok-append.ensures.items c.in_ok-append-2.ensures.items
    c.in_ok-append-3.ensures.items c.in_ok-append-4.ensures.items (c.octets-properties.ensures.value ∙ h.properties)

pub returns-in_err-append-3-clause-accepts : goal.returns-in_err-append-3-clause-accepts
returns-in_err-append-3-clause-accepts c s h short =
    let d = c.append-2.new.out.items in
    let q = c.octets-properties.result.now in
    let all : length (d ++ q) + length packet_end ≤ limit =
    packet_short _ _ d (d ++ q) q s.properties limit (c.in_ok-reserve.ensures.items ∙ c.list-form.ensures.items) c.in_ok-append.ensures.items
    c.in_ok-append-2.ensures.items refl (c.octets-properties.ensures.value ∙ h.properties) short in
    let few : length d + length q ≤ most = omega (arith, all, length-append d q) in
    let p = err_from_is_err_and c.from_residual-in_err-append-3.result c.from_residual-in_err-append-3.ensures.1 in
    rw (p.1, p.2) (c.in_err-append-3.ensures.accepts few)

pub returns-in_err-append-4-clause-accepts : goal.returns-in_err-append-4-clause-accepts
returns-in_err-append-4-clause-accepts c s h short =
    let e = c.append-3.new.out.items in
    let all : length e + length packet_end ≤ limit =
    packet_short _ _ _ e _ s.properties limit (c.in_ok-reserve.ensures.items ∙ c.list-form.ensures.items) c.in_ok-append.ensures.items
    c.in_ok-append-2.ensures.items c.in_ok-append-3.ensures.items (c.octets-properties.ensures.value ∙ h.properties) short in
    let few : length e + length packet_end ≤ most = omega (arith, all) in
    let p = err_from_is_err_and c.from_residual-in_err-append-4.result c.from_residual-in_err-append-4.ensures.1 in
    rw (p.1, p.2) (c.in_err-append-4.ensures.accepts few)

pub returns-then-len-gt-LIMIT-clause-accepts : goal.returns-then-len-gt-LIMIT-clause-accepts
returns-then-len-gt-LIMIT-clause-accepts c s h short =
    let form = packet_is _ _ _ _ _ _ s.properties (c.in_ok-reserve.ensures.items ∙ c.list-form.ensures.items) c.in_ok-append.ensures.items
    c.in_ok-append-2.ensures.items c.in_ok-append-3.ensures.items c.in_ok-append-4.ensures.items (c.octets-properties.ensures.value ∙ h.properties) in
    absurd (omega (arith, short, ap length form, c.if-len-gt-LIMIT.true))

pub returns-in_err-reserve-clause-asked : goal.returns-in_err-reserve-clause-asked
returns-in_err-reserve-clause-asked c s h =
    let p = ap length (c.octets-properties.ensures.value ∙ h.properties) in
    omega (arith, c.reserve.ensures.asked, c.list-form.ensures.len, c.saturating_add.ensures, p)

pub returns-in_err-append-clause-asked : goal.returns-in_err-append-clause-asked
returns-in_err-append-clause-asked c s h =
    let p = ap length (c.octets-properties.ensures.value ∙ h.properties) in
    let size : min most (length c.octets-properties.result.now + 171) ≤ vec_capacity c.reserve.new.out =
    omega (arith, c.in_ok-reserve.ensures.space, c.saturating_add.ensures) in
    let empty = ap length (c.in_ok-reserve.ensures.items ∙ c.list-form.ensures.items) in
    let first = c.append.ensures.fits (omega (arith, size, empty)) in
    omega (arith, c.reserve.ensures.asked, c.list-form.ensures.len, c.saturating_add.ensures, p, first)

pub returns-in_err-append-2-clause-asked : goal.returns-in_err-append-2-clause-asked
returns-in_err-append-2-clause-asked c s h =
    let p = ap length (c.octets-properties.ensures.value ∙ h.properties) in
    let size : min most (length c.octets-properties.result.now + 171) ≤ vec_capacity c.reserve.new.out =
    omega (arith, c.in_ok-reserve.ensures.space, c.saturating_add.ensures) in
    let empty = ap length (c.in_ok-reserve.ensures.items ∙ c.list-form.ensures.items) in
    let first = c.append.ensures.fits (omega (arith, size, empty)) in
    let head = ap length c.in_ok-append.ensures.items ∙ length-append c.reserve.new.out.items _ in
    let second = c.append-2.ensures.fits (omega (arith, size, empty, head, c.append.ensures.capacity)) in
    omega (arith, c.reserve.ensures.asked, c.list-form.ensures.len, c.saturating_add.ensures, p, first, second)

pub returns-in_err-append-3-clause-asked : goal.returns-in_err-append-3-clause-asked
returns-in_err-append-3-clause-asked c s h =
    let p = ap length (c.octets-properties.ensures.value ∙ h.properties) in
    let size : min most (length c.octets-properties.result.now + 171) ≤ vec_capacity c.reserve.new.out =
    omega (arith, c.in_ok-reserve.ensures.space, c.saturating_add.ensures) in
    let empty = ap length (c.in_ok-reserve.ensures.items ∙ c.list-form.ensures.items) in
    let first = c.append.ensures.fits (omega (arith, size, empty)) in
    let head = ap length c.in_ok-append.ensures.items ∙ length-append c.reserve.new.out.items _ in
    let second = c.append-2.ensures.fits (omega (arith, size, empty, head, c.append.ensures.capacity)) in
    let start = ap length c.in_ok-append-2.ensures.items ∙ length-append c.append.new.out.items _ in
    let third = c.append-3.ensures.fits (omega (arith, size, empty, head, start, c.append.ensures.capacity, c.append-2.ensures.capacity)) in
    omega (arith, c.reserve.ensures.asked, c.list-form.ensures.len, c.saturating_add.ensures, p, first, second, third)

pub returns-in_err-append-4-clause-asked : goal.returns-in_err-append-4-clause-asked
returns-in_err-append-4-clause-asked c s h =
    let p = ap length (c.octets-properties.ensures.value ∙ h.properties) in
    let size : min most (length c.octets-properties.result.now + 171) ≤ vec_capacity c.reserve.new.out =
    omega (arith, c.in_ok-reserve.ensures.space, c.saturating_add.ensures) in
    let empty = ap length (c.in_ok-reserve.ensures.items ∙ c.list-form.ensures.items) in
    let first = c.append.ensures.fits (omega (arith, size, empty)) in
    let head = ap length c.in_ok-append.ensures.items ∙ length-append c.reserve.new.out.items _ in
    let second = c.append-2.ensures.fits (omega (arith, size, empty, head, c.append.ensures.capacity)) in
    let start = ap length c.in_ok-append-2.ensures.items ∙ length-append c.append.new.out.items _ in
    let third = c.append-3.ensures.fits (omega (arith, size, empty, head, start, c.append.ensures.capacity, c.append-2.ensures.capacity)) in
    let inside = ap length c.in_ok-append-3.ensures.items ∙ length-append c.append-2.new.out.items c.octets-properties.result.now in
    let fourth = c.append-4.ensures.fits (omega (arith, size, empty, head, start, inside, c.append.ensures.capacity, c.append-2.ensures.capacity, c.append-3.ensures.capacity)) in
    omega (arith, c.reserve.ensures.asked, c.list-form.ensures.len, c.saturating_add.ensures, p, first, second, third, fourth)

pub returns-then-len-gt-LIMIT-clause-asked : goal.returns-then-len-gt-LIMIT-clause-asked
returns-then-len-gt-LIMIT-clause-asked c s h =
    let p = ap length (c.octets-properties.ensures.value ∙ h.properties) in
    let size : min most (length c.octets-properties.result.now + 171) ≤ vec_capacity c.reserve.new.out =
    omega (arith, c.in_ok-reserve.ensures.space, c.saturating_add.ensures) in
    let empty = ap length (c.in_ok-reserve.ensures.items ∙ c.list-form.ensures.items) in
    let first = c.append.ensures.fits (omega (arith, size, empty)) in
    let head = ap length c.in_ok-append.ensures.items ∙ length-append c.reserve.new.out.items _ in
    let second = c.append-2.ensures.fits (omega (arith, size, empty, head, c.append.ensures.capacity)) in
    let start = ap length c.in_ok-append-2.ensures.items ∙ length-append c.append.new.out.items _ in
    let third = c.append-3.ensures.fits (omega (arith, size, empty, head, start, c.append.ensures.capacity, c.append-2.ensures.capacity)) in
    let inside = ap length c.in_ok-append-3.ensures.items ∙ length-append c.append-2.new.out.items c.octets-properties.result.now in
    let fourth = c.append-4.ensures.fits (omega (arith, size, empty, head, start, inside, c.append.ensures.capacity, c.append-2.ensures.capacity, c.append-3.ensures.capacity)) in
    omega (arith, c.reserve.ensures.asked, c.list-form.ensures.len, c.saturating_add.ensures, p, first, second, third, fourth)

pub returns-clause-asked : goal.returns-clause-asked
returns-clause-asked c s h =
    let p = ap length (c.octets-properties.ensures.value ∙ h.properties) in
    let size : min most (length c.octets-properties.result.now + 171) ≤ vec_capacity c.reserve.new.out =
    omega (arith, c.in_ok-reserve.ensures.space, c.saturating_add.ensures) in
    let empty = ap length (c.in_ok-reserve.ensures.items ∙ c.list-form.ensures.items) in
    let first = c.append.ensures.fits (omega (arith, size, empty)) in
    let head = ap length c.in_ok-append.ensures.items ∙ length-append c.reserve.new.out.items _ in
    let second = c.append-2.ensures.fits (omega (arith, size, empty, head, c.append.ensures.capacity)) in
    let start = ap length c.in_ok-append-2.ensures.items ∙ length-append c.append.new.out.items _ in
    let third = c.append-3.ensures.fits (omega (arith, size, empty, head, start, c.append.ensures.capacity, c.append-2.ensures.capacity)) in
    let inside = ap length c.in_ok-append-3.ensures.items ∙ length-append c.append-2.new.out.items c.octets-properties.result.now in
    let fourth = c.append-4.ensures.fits (omega (arith, size, empty, head, start, inside, c.append.ensures.capacity, c.append-2.ensures.capacity, c.append-3.ensures.capacity)) in
    omega (arith, c.reserve.ensures.asked, c.list-form.ensures.len, c.saturating_add.ensures, p, first, second, third, fourth)
