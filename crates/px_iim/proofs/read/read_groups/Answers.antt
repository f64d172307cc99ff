use Rattle.std.proofs.Common.{◌≡◌, ◌≤◌, ◌<◌, ℕ, List, [], ap, ◌∙◌, option_map, arith, Result, Ok, Err, IfErr}
use Rattle.std.specs.List.{AllByRecursion}
use Rattle.px_bytes.specs.declared.Refusal.{Refusal}
use Rattle.px_bytes.specs.declared.Refusal.TheVariants.{Content, OutOfMemory}
use Rattle.px_bytes.specs.Allocations.{MemoryCounts}
use Rattle.px_iim.specs.Asking.{RefusesFirst}
use Rattle.px_iim.specs.DataSet.{DataSet}
use Rattle.px_iim.specs.Group.{gather}
use Rattle.px_iim.specs.calls.Runs.{key_of}
use Rattle.px_iim.specs.calls.Digits.{digit_in}
use Rattle.px_iim.specs.declared.digits.Digit.TheVariants.{Record}
use Rattle.px_iim.proofs.reading.Sorted.{all_weaker}
use Rattle.px_iim.proofs.reading.Counted.{count_gather}
use Rattle.px_iim.proofs.reading.Steps.{iim_of_within}
use Rattle.px_iim.proofs.reading.Walked.{datasets_is}
use Rattle.px_iim.proofs.read.read_groups.Goals as goal

pub read_ordered-requires-clause-meaning : goal.read_ordered-requires-clause-meaning
read_ordered-requires-clause-meaning c =
    let (none, read) = c.in_ok-seen.ensures.judged in
    let (ds, s, n, a, w, o) = read in
    (ds, s, n, o c.if-seen.true, w)

pub read_put-requires-clause-meaning : goal.read_put-requires-clause-meaning
read_put-requires-clause-meaning c =
    let x = c.args.bytes.now in
    let (none, read) = c.in_ok-seen.ensures.judged in
    let (ds, s, n, a, w, o) = read in (
      gather [] ds,
      iim_of_within x c.requires ∙ ap (option_map (gather [])) (datasets_is x ∙ s),
      omega (arith, count_gather ds [], n, c.is_few.ensures.few c.if-is_few.true),
    )

pub read_sorted-requires-clause-meaning : goal.read_sorted-requires-clause-meaning
read_sorted-requires-clause-meaning c =
    let (none, read) = c.in_ok-seen.ensures.judged in
    let (ds, s, n, a, w, o) = read in
    (ds, s, n, a, w)

-- a record number is a byte, since the key is below 65,536
record_below : (keys : ℕ) (ds : List DataSet) → keys ≤ 65536 → AllByRecursion (λ d. key_of d < keys) ds
    → AllByRecursion (λ d. digit_in Record d < 256) ds
record_below keys ds l a = all_weaker (λ d. key_of d < keys) (λ d. digit_in Record d < 256) (λ d h. omega (arith, l, h)) ds a

pub read_by_digits-requires-clause-meaning : goal.read_by_digits-requires-clause-meaning
read_by_digits-requires-clause-meaning c =
    let (none, read) = c.in_ok-seen.ensures.judged in
    let (ds, s, n, a, w, o) = read in
    (ds, s, n, record_below _ ds c.in_ok-seen.ensures.few.1 a, w)

-- out of memory isn't a refusal of the block
not_refused : {A : Type 0} (r : Result A Refusal) (old new : MemoryCounts) → IfErr r (λ e. e ≡ OutOfMemory) → RefusesFirst r old new
not_refused (Ok x) old new h = tt
not_refused (Err (Content cause place)) old new h = absurd (cc)
not_refused (Err OutOfMemory) old new h = tt

pub returns-then-is_few-clause-refused : goal.returns-then-is_few-clause-refused
returns-then-is_few-clause-refused c = not_refused c.read_put.result _ _ c.read_put.ensures.read
