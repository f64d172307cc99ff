use Rattle.std.proofs.Common.{◌≡◌, ◌≤◌, List, ℕ, length, refl, sym, subst}
use Rattle.std.specs.Prelude.{IfOk, IfErr, ⊤}
use Rattle.std.proofs.lemmas.Result.{err_from_is_err_and}
use Rattle.px_bytes.specs.Parts.{limit}
use Rattle.px_bytes.specs.lemmas.CheckLaws.{Judges_good}
use Rattle.px_meaning.specs.Tree.{Meaning}
use Rattle.px_meaning.specs.Writable.{IsWritable}
use Rattle.px_meaning.specs.Says.{meaning, SaysExif}
use Rattle.px_tree.specs.Checks.{tree_checks}
use Rattle.px_tree.specs.Refused.{IsRefused}
use Rattle.px_tree.proofs.faulting.Answered.{tree_judged, tree_refused, header_refuses, refused_only}
use Rattle.px_bytes.specs.Allocations.{AsksAtMost}
use Rattle.px_tree.specs.Asking.{exif_request}
use Rattle.px_tree.proofs.judging.judge_block_in.Goals as goal

pub returns-in_err-judge_header-clause-refused : goal.returns-in_err-judge_header-clause-refused
returns-in_err-judge_header-clause-refused c =
    let p = err_from_is_err_and c.from_residual.result c.from_residual.ensures.1 in
    let b = c.bytes-bytes.result.now in
    let is = c.bytes-bytes.ensures.value in
    let most : length b ≤ limit = subst (λ (x : List ℕ). length x ≤ limit) (sym is) c.bytes-bytes.ensures.bounded in
    let e = c.in_err-judge_header.field-0.0 in
    rw (p.1, p.2) (subst (λ (x : List ℕ). IsRefused x c.args.memory.now.failed_allocations e) is
    (refused_only ℕ b e c.args.memory.now.failed_allocations most (header_refuses b e c.in_err-judge_header.ensures.judged)
    c.in_err-judge_header.ensures.content))

pub returns-clause-meaning : goal.returns-clause-meaning
returns-clause-meaning c =
    let b = c.bytes-bytes.result.now in
    subst (λ (x : List ℕ). IfOk c.judge_tree.result (λ _. (m : Meaning) × SaysExif x m × IsWritable m)) c.bytes-bytes.ensures.value
    (tree_judged b c.order_in-order.result c.in_ok-judge_header.ensures.judged.0 c.order_in-order.ensures.is_order c.judge_tree.result
    c.order_in-order.ensures.bytes c.judge_tree.ensures.judged)

pub returns-clause-refused : goal.returns-clause-refused
returns-clause-refused c =
    let b = c.bytes-bytes.result.now in
    let is = c.bytes-bytes.ensures.value in
    let most : length b ≤ limit = subst (λ (x : List ℕ). length x ≤ limit) (sym is) c.bytes-bytes.ensures.bounded in
    let o = c.order_in-order.result in
    let r = c.judge_tree.result in
    subst (λ (x : List ℕ). IfErr r (IsRefused x c.judge_tree.new.memory.failed_allocations)) is
    (tree_refused b o c.in_ok-judge_header.ensures.judged.0 c.order_in-order.ensures.is_order (λ u. meaning b o) r _ _ most
    (Judges_good r (tree_checks b o) (λ u. ⊤) (λ u. meaning b o ≡ meaning b o) (λ u t. refl) c.judge_tree.ensures.judged)
    c.judge_tree.ensures.memory)

pub returns-clause-asked : goal.returns-clause-asked
returns-clause-asked c =
    subst (λ (x : List ℕ). AsksAtMost (exif_request (length x)) c.args.memory.now c.judge_tree.new.memory) c.bytes-bytes.ensures.value
    c.judge_tree.ensures.asked
