use Rattle.std.proofs.Common.{◌≡◌, ◌≤◌, ◌+◌, ◌∙◌, ℕ, take, ap, length, length-append, arith, Result, Ok, Err, is_ok, if◌then◌else◌}
use Rattle.px_iim.proofs.writing.Writes.{grows_item, head_and_data}
use Rattle.px_iim.proofs.write.append_item.Goals as goal

-- the length of a vector to which elements were appended, or not
at_most : {A E : Type 0} (r : Result A E) (len more : ℕ) {now : ℕ} → now ≡ (if is_ok r then len + more else len) → now ≤ len + more
at_most (Ok x) len more is = omega arith
at_most (Err e) len more is = omega arith

pub returns-clause-grown : goal.returns-clause-grown
returns-clause-grown c =
    let head = take c.head-len.result.1 c.head-len.result.0 in
    let octets = c.args.item.now.octets.now in
    grows_item c.extend_from_slice-2.result c.args.out.now.items c.extend_from_slice.new.list.items c.extend_from_slice-2.new.list.items
    head octets _
    c.in_ok-extend_from_slice.ensures.items c.extend_from_slice-2.ensures.items
    (head_and_data c.args.rec c.args.item.now.number octets head c.head-len.ensures.encoded)

pub returns-in_err-extend_from_slice-clause-asked : goal.returns-in_err-extend_from_slice-clause-asked
returns-in_err-extend_from_slice-clause-asked c =
    let head = take c.head-len.result.1 c.head-len.result.0 in
    let octets = c.args.item.now.octets.now in
    let whole = ap length (head_and_data c.args.rec c.args.item.now.number octets head c.head-len.ensures.encoded) in
    c.in_err-extend_from_slice.ensures.fits (omega (arith, c.requires.space, whole, length-append head octets))

pub returns-in_err-extend_from_slice-clause-space : goal.returns-in_err-extend_from_slice-clause-space
returns-in_err-extend_from_slice-clause-space c =
    let head = take c.head-len.result.1 c.head-len.result.0 in
    let octets = c.args.item.now.octets.now in
    let whole = ap length (head_and_data c.args.rec c.args.item.now.number octets head c.head-len.ensures.encoded) in
    let same = c.in_err-extend_from_slice.ensures.len in
    let wider = c.in_err-extend_from_slice.ensures.capacity in
    omega arith

pub returns-clause-asked : goal.returns-clause-asked
returns-clause-asked c =
    let head = take c.head-len.result.1 c.head-len.result.0 in
    let octets = c.args.item.now.octets.now in
    let whole = ap length (head_and_data c.args.rec c.args.item.now.number octets head c.head-len.ensures.encoded) in
    let first = c.in_ok-extend_from_slice.ensures.fits (omega (arith, c.requires.space, whole, length-append head octets)) in
    let len = c.in_ok-extend_from_slice.ensures.len in
    let wider = c.in_ok-extend_from_slice.ensures.capacity in
    c.extend_from_slice-2.ensures.fits (omega (arith, c.requires.space, whole, length-append head octets, len, wider)) ∙ first

pub returns-clause-space : goal.returns-clause-space
returns-clause-space c =
    let head = take c.head-len.result.1 c.head-len.result.0 in
    let octets = c.args.item.now.octets.now in
    let whole = ap length (head_and_data c.args.rec c.args.item.now.number octets head c.head-len.ensures.encoded) in
    let len = c.in_ok-extend_from_slice.ensures.len in
    let wider = c.in_ok-extend_from_slice.ensures.capacity in
    let last = at_most c.extend_from_slice-2.result _ _ c.extend_from_slice-2.ensures.len in
    let wide = c.extend_from_slice-2.ensures.capacity in
    omega (arith, whole, length-append head octets, len, wider, last, wide)
