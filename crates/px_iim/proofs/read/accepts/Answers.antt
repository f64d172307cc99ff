use Rattle.std.proofs.Common.{◌≡◌, ℕ, ◌+◌, true, false, is_some, None, List, [], drop, subst, ◌∙◌, ap, sym, arith}
use Rattle.px_iim.specs.Record.{is_end}
use Rattle.px_iim.specs.calls.Reading.{Reads, found_view}
use Rattle.px_iim.proofs.reading.Steps.{datasets, iim_of_past, iim_of_within, some_mapped, some_more}
use Rattle.px_iim.proofs.reading.Steps.{refused_means, dataset_size_ge, dataset_inside, meaning_last}
use Rattle.px_iim.proofs.reading.Steps.{meaning_more}
use Rattle.px_iim.proofs.read.accepts.Goals as goal

pub returns-then-bytes : goal.returns-then-bytes
returns-then-bytes c = sym (ap is_some (iim_of_past c.args.bytes.now c.if-bytes.true))

pub loop-found-init : goal.loop-found-init
loop-found-init c = record {
  inside = omega arith;
  meaning = sym (ap is_some (iim_of_within c.args.bytes.now c.if-bytes.false) ∙ some_mapped [] (datasets c.args.bytes.now));
}

pub returns-in_default : goal.returns-in_default
returns-in_default c =
    let none : datasets c.rest.result.now ≡ None = refused_means 0 c.rest.result.now _ (c.in_default.ensures 0) in
    sym (ap is_some none) ∙ ap (λ (x : List ℕ). is_some (datasets x)) c.rest.ensures ∙ c.loop-found.invariant.meaning

pub overflow_add-at : goal.overflow_add-at
overflow_add-at c =
    let x = c.args.bytes.now in
    let r : Reads (drop c.loop-found.at x) c.in-Ok.found = subst (λ (y : List ℕ). Reads y c.in-Ok.found) c.rest.ensures c.in-Ok.ensures in
    let l = dataset_inside x c.loop-found.at c.in-Ok.found r c.loop-found.invariant.inside in
    record { fits = omega (arith, c.if-bytes.false) }

pub rest-requires-in-loop-found : goal.rest-requires-in-loop-found
rest-requires-in-loop-found c =
    let x = c.args.bytes.now in
    let r : Reads (drop c.loop-found.at x) c.in-Ok.found = subst (λ (y : List ℕ). Reads y c.in-Ok.found) c.rest.ensures c.in-Ok.ensures in
    dataset_inside x c.loop-found.at c.in-Ok.found r c.loop-found.invariant.inside

pub returns-then-is_end : goal.returns-then-is_end
returns-then-is_end c =
    let x = c.args.bytes.now in
    let r : Reads (drop c.loop-found.at x) c.in-Ok.found = subst (λ (y : List ℕ). Reads y c.in-Ok.found) c.rest.ensures c.in-Ok.ensures in
    let e : is_end (drop (c.loop-found.at + c.in-Ok.found.size) x) ≡ true =
    sym (ap is_end c.rest-in-loop-found.ensures) ∙ sym c.if-is_end.ensures in
    sym (ap is_some (meaning_last x c.loop-found.at c.in-Ok.found r e)) ∙ c.loop-found.invariant.meaning

pub loop-found-preserved : goal.loop-found-preserved
loop-found-preserved c =
    let x = c.args.bytes.now in
    let r : Reads (drop c.loop-found.at x) c.in-Ok.found = subst (λ (y : List ℕ). Reads y c.in-Ok.found) c.rest.ensures c.in-Ok.ensures in
    let e : is_end (drop (c.loop-found.at + c.in-Ok.found.size) x) ≡ false =
    sym (ap is_end c.rest-in-loop-found.ensures) ∙ sym c.if-is_end.ensures in
    record {
      inside = dataset_inside x c.loop-found.at c.in-Ok.found r c.loop-found.invariant.inside;
      meaning = sym (ap is_some (meaning_more x c.loop-found.at c.in-Ok.found r e)
          ∙ some_more (found_view c.in-Ok.found) (datasets (drop (c.loop-found.at + c.in-Ok.found.size) x))) ∙ c.loop-found.invariant.meaning;
    }

pub loop-found-smaller : goal.loop-found-smaller
loop-found-smaller c =
    let x = c.args.bytes.now in
    let r : Reads (drop c.loop-found.at x) c.in-Ok.found = subst (λ (y : List ℕ). Reads y c.in-Ok.found) c.rest.ensures c.in-Ok.ensures in
    let l = dataset_inside x c.loop-found.at c.in-Ok.found r c.loop-found.invariant.inside in
    let w = dataset_size_ge x c.loop-found.at c.in-Ok.found r in
    omega arith
