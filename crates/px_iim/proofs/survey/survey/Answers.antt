use Rattle.std.proofs.Common.{◌≡◌, ◌∙◌, ◌<◌, ◌≤◌, ◌+◌, ◌++◌, ◌∷◌, [], ℕ, List, Err, false, true, drop, refl, sym, ap, arith}
use Rattle.std.proofs.Common.{Bool, ◌&&◌, nat_le, leb-true, length-append}
use Rattle.std.proofs.lemmas.Bool.{and_parts}
use Rattle.std.specs.List.{AllByRecursion}
use Rattle.std.proofs.lemmas.Result.{err_from_is_err_and}
use Rattle.px_bytes.specs.declared.Refusal.{Refusal}
use Rattle.px_bytes.specs.declared.Refusal.TheVariants.{Content, OutOfMemory}
use Rattle.px_bytes.specs.Checks.{first_false, Refuses}
use Rattle.px_iim.specs.DataSet.{DataSet}
use Rattle.px_iim.specs.Group.{named}
use Rattle.px_iim.specs.Record.{is_end}
use Rattle.px_iim.specs.Check.{iim_checks}
use Rattle.px_iim.specs.calls.Reading.{Reads, JudgesAt, found_view}
use Rattle.px_iim.specs.calls.Runs.{key_of, InOrder}
use Rattle.px_iim.specs.declared.dataset.Found.{Found}
use Rattle.px_iim.specs.lemmas.ScanLaws.{checks_left, iim_left}
use Rattle.px_iim.proofs.reading.Steps.{datasets, dataset_inside, dataset_size_ge, meaning_last}
use Rattle.px_iim.proofs.reading.Steps.{meaning_more, fault_last, fault_more, refused_fault}
use Rattle.px_iim.proofs.reading.Walked.{datasets_is, none_read, last_left, more_left}
use Rattle.px_iim.proofs.reading.Sorted.{all_append, all_weaker, order_more}
use Rattle.px_iim.proofs.survey.survey.Goals as goal

pub loop-found-init : goal.loop-found-init
loop-found-init c = record {
  inside = omega arith;
  read = ([], none_read (datasets c.args.bytes.now), refl, tt, tt, λ t. (tt, tt));
  few = omega arith;
  keys = omega arith;
  faults = sym (iim_left c.args.bytes.now c.requires);
}

judges_at_refuses : (e : Refusal) (x : List ℕ) (at : ℕ) → JudgesAt (Err e) x at
    → first_false (checks_left at (drop at x)) ≡ first_false (iim_checks x) → Refuses e (iim_checks x)
judges_at_refuses (Content cause place) x at h f = sym f ∙ refused_fault at (drop at x) (cause, place) h
judges_at_refuses OutOfMemory x at h f = absurd h

pub returns-in_err-found-clause-judged : goal.returns-in_err-found-clause-judged
returns-in_err-found-clause-judged c =
    let p = err_from_is_err_and c.from_residual.result c.from_residual.ensures.1 in
    rw (p.1, p.2) (judges_at_refuses c.in_err-found.field-0.0 c.args.bytes.now c.loop-found.at c.in_err-found.ensures
    c.loop-found.invariant.faults)

pub overflow_add-at : goal.overflow_add-at
overflow_add-at c =
    let l = dataset_inside c.args.bytes.now c.loop-found.at c.in_ok-found.found c.in_ok-found.ensures c.loop-found.invariant.inside in
    record { fits = omega (arith, c.requires) }

pub rest-requires : goal.rest-requires
rest-requires c = dataset_inside c.args.bytes.now c.loop-found.at c.in_ok-found.found c.in_ok-found.ensures c.loop-found.invariant.inside

-- all so far and one more are below a greater bound
keys_below : (ds : List DataSet) (d : DataSet) (n m k : ℕ) → k ≡ key_of d → n ≤ m → k < m → AllByRecursion (λ y. key_of y < n) ds
    → AllByRecursion (λ y. key_of y < m) (ds ++ d ∷ [])
keys_below ds d n m k e l h a =
    all_append (λ y. key_of y < m) ds (d ∷ []) (all_weaker (λ y. key_of y < n) (λ y. key_of y < m) (λ y b. omega arith) ds a)
    (omega arith, tt)

-- all so far and one more are in order if this one's group isn't before the last one's
order_rising : (ds : List DataSet) (d : DataSet) (in_order : Bool) (last key : ℕ) → key ≡ key_of d
    → (in_order ≡ true → InOrder ds × AllByRecursion (λ y. key_of y ≤ last) ds) → in_order && nat_le last key ≡ true
    → InOrder (ds ++ d ∷ []) × AllByRecursion (λ y. key_of y ≤ key) (ds ++ d ∷ [])
order_rising ds d in_order last key k o t =
    let p = and_parts in_order (nat_le last key) t in
    let l = leb-true last key p.1 in
    let (w, a) = o p.0 in (
      order_more ds d w (all_weaker (λ y. key_of y ≤ last) (λ y. key_of y ≤ key_of d) (λ y b. omega arith) ds a),
      all_append (λ y. key_of y ≤ key) ds (d ∷ []) (all_weaker (λ y. key_of y ≤ last) (λ y. key_of y ≤ key) (λ y b. omega arith) ds a)
          (omega arith, tt),
    )

pub returns-then-is_end-clause-judged : goal.returns-then-is_end-clause-judged
returns-then-is_end-clause-judged c =
    let x = c.args.bytes.now in
    let at = c.loop-found.at in
    let f : Found = c.in_ok-found.found in
    let d = found_view f in
    let r : Reads (drop at x) f = c.in_ok-found.ensures in
    let e : is_end (drop (at + f.size) x) ≡ true = sym (ap is_end c.rest.ensures) ∙ sym c.if-is_end.ensures in
    let (front, h, n, a, b, o) = c.loop-found.invariant.read in
    let l = length-append front (d ∷ []) in (
      sym c.loop-found.invariant.faults ∙ fault_last x at f r e,
      (
        front ++ d ∷ [],
        sym (datasets_is x) ∙ last_left front d (datasets (drop at x)) (datasets x) (meaning_last x at f r e) h,
        omega arith,
        keys_below front d c.loop-found.keys c.past-keys.result c.key_of-key.result c.key_of-key.ensures.value
            (omega (arith, c.past-keys.ensures)) (omega (arith, c.past-keys.ensures)) a,
        all_append (λ y. named y.rec y.number < 256) front (d ∷ []) b (c.key_of-key.ensures.byte, tt),
        λ t. (order_rising front d c.loop-found.in_order c.loop-found.last c.key_of-key.result c.key_of-key.ensures.value o t).0,
      ),
    )

pub loop-found-preserved : goal.loop-found-preserved
loop-found-preserved c =
    let x = c.args.bytes.now in
    let at = c.loop-found.at in
    let f : Found = c.in_ok-found.found in
    let d = found_view f in
    let r : Reads (drop at x) f = c.in_ok-found.ensures in
    let e : is_end (drop (at + f.size) x) ≡ false = sym (ap is_end c.rest.ensures) ∙ sym c.if-is_end.ensures in
    let (front, h, n, a, b, o) = c.loop-found.invariant.read in
    let l = length-append front (d ∷ []) in
    let w = dataset_size_ge x at f r in
    record {
      inside = dataset_inside x at f r c.loop-found.invariant.inside;
      read = (
        front ++ d ∷ [],
        more_left front d (datasets (drop at x)) (datasets (drop (at + f.size) x)) (datasets x) (meaning_more x at f r e) h,
        omega arith,
        keys_below front d c.loop-found.keys c.past-keys.result c.key_of-key.result c.key_of-key.ensures.value
            (omega (arith, c.past-keys.ensures)) (omega (arith, c.past-keys.ensures)) a,
        all_append (λ y. named y.rec y.number < 256) front (d ∷ []) b (c.key_of-key.ensures.byte, tt),
        λ t. order_rising front d c.loop-found.in_order c.loop-found.last c.key_of-key.result c.key_of-key.ensures.value o t,
      );
      few = omega (arith, c.loop-found.invariant.few);
      keys = omega (arith, c.loop-found.invariant.keys, c.key_of-key.ensures.bounded, c.past-keys.ensures);
      faults = sym (fault_more x at f r e) ∙ c.loop-found.invariant.faults;
    }

pub loop-found-smaller : goal.loop-found-smaller
loop-found-smaller c =
    let x = c.args.bytes.now in
    let r : Reads (drop c.loop-found.at x) c.in_ok-found.found = c.in_ok-found.ensures in
    let l = dataset_inside x c.loop-found.at c.in_ok-found.found r c.loop-found.invariant.inside in
    let w = dataset_size_ge x c.loop-found.at c.in_ok-found.found r in
    omega arith

pub returns-then-is_end-clause-few : goal.returns-then-is_end-clause-few
returns-then-is_end-clause-few c =
    let x = c.args.bytes.now in
    let r : Reads (drop c.loop-found.at x) c.in_ok-found.found = c.in_ok-found.ensures in
    let l = dataset_inside x c.loop-found.at c.in_ok-found.found r c.loop-found.invariant.inside in
    let w = dataset_size_ge x c.loop-found.at c.in_ok-found.found r in (
      omega (arith, c.requires, c.loop-found.invariant.few),
      omega (arith, c.loop-found.invariant.keys, c.key_of-key.ensures.bounded, c.past-keys.ensures),
    )
