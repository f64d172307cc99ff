use Rattle.std.proofs.Common.{◌≤◌, List, ℕ, length, sym, subst}
use Rattle.std.specs.Prelude.{IfOk, IfErr}
use Rattle.std.proofs.lemmas.Result.{err_from_is_err_and}
use Rattle.px_bytes.specs.Parts.{limit}
use Rattle.px_meaning.specs.Says.{SaysExif}
use Rattle.px_meaning.specs.calls.Seen.{meaning_of}
use Rattle.px_tree.specs.Refused.{IsRefused}
use Rattle.px_tree.proofs.faulting.Answered.{tree_has_meaning, tree_refused, tree_fits, header_refuses, refused_only}
use Rattle.px_bytes.specs.Allocations.{AsksAtMost}
use Rattle.px_tree.specs.Asking.{exif_request}
use Rattle.px_tree.proofs.read.read_block_in.Goals as goal

pub returns-in_err-judge_header-clause-refused : goal.returns-in_err-judge_header-clause-refused
returns-in_err-judge_header-clause-refused c =
    let p = err_from_is_err_and c.from_residual.result c.from_residual.ensures.1 in
    let b = c.bytes-bytes.result.now in
    let is = c.bytes-bytes.ensures.value in
    let most : length b ≤ limit = subst (λ (x : List ℕ). length x ≤ limit) (sym is) c.bytes-bytes.ensures.bounded in
    let e = c.in_err-judge_header.field-0.0 in
    rw (p.1, p.2) (subst (λ (x : List ℕ). IsRefused x c.args.memory.now.failed_allocations e) is
    (refused_only ℕ b e c.args.memory.now.failed_allocations most (header_refuses b e c.in_err-judge_header.ensures.judged)
    c.in_err-judge_header.ensures.content))

pub returns-clause-means : goal.returns-clause-means
returns-clause-means c =
    let b = c.bytes-bytes.result.now in
    subst (λ (x : List ℕ). IfOk c.read_tree.result (λ m. SaysExif x (meaning_of m))) c.bytes-bytes.ensures.value
    (tree_has_meaning b c.order_in-order.result c.in_ok-judge_header.ensures.judged.0 c.order_in-order.ensures.is_order meaning_of c.read_tree.result
    c.read_tree.ensures.judged)

pub returns-clause-fits : goal.returns-clause-fits
returns-clause-fits c =
    let b = c.bytes-bytes.result.now in
    let o = c.order_in-order.result in
    let headed = c.in_ok-judge_header.ensures.judged.0 in
    let is_order = c.order_in-order.ensures.is_order in
    tree_fits b o headed is_order meaning_of c.read_tree.result c.order_in-order.ensures.bytes
    (tree_has_meaning b o headed is_order meaning_of c.read_tree.result c.read_tree.ensures.judged)

pub returns-clause-refused : goal.returns-clause-refused
returns-clause-refused c =
    let b = c.bytes-bytes.result.now in
    let is = c.bytes-bytes.ensures.value in
    let most : length b ≤ limit = subst (λ (x : List ℕ). length x ≤ limit) (sym is) c.bytes-bytes.ensures.bounded in
    subst (λ (x : List ℕ). IfErr c.read_tree.result (IsRefused x c.read_tree.new.memory.failed_allocations)) is
    (tree_refused b c.order_in-order.result c.in_ok-judge_header.ensures.judged.0 c.order_in-order.ensures.is_order meaning_of
    c.read_tree.result _ _ most c.read_tree.ensures.judged c.read_tree.ensures.memory)

pub returns-clause-asked : goal.returns-clause-asked
returns-clause-asked c =
    subst (λ (x : List ℕ). AsksAtMost (exif_request (length x)) c.args.memory.now c.read_tree.new.memory) c.bytes-bytes.ensures.value
    c.read_tree.ensures.asked
