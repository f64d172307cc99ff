use Rattle.std.proofs.Common.{◌≡◌, refl, ℕ, ◌+◌, true, false, Option, None, Some, List, drop, option_map, ◌∙◌, ap, sym, arith}
use Rattle.std.proofs.lemmas.Result.{err_from_is_err_and}
use Rattle.px_bytes.specs.declared.Refusal.{Refusal}
use Rattle.px_bytes.specs.declared.Refusal.TheVariants.{Content, OutOfMemory}
use Rattle.px_bytes.specs.Checks.{first_false, Refuses}
use Rattle.std.proofs.Common.{Err}
use Rattle.px_iim.specs.Asking.{dataset_count}
use Rattle.px_iim.specs.Group.{Record, gather}
use Rattle.px_iim.specs.Check.{iim_checks}
use Rattle.px_iim.specs.Record.{is_end}
use Rattle.px_iim.specs.calls.Reading.{Reads, JudgesAt, found_view}
use Rattle.px_iim.specs.lemmas.ScanLaws.{checks_left, iim_left}
use Rattle.px_iim.proofs.reading.Steps.{datasets, iim_of_within, gather_last, gather_more}
use Rattle.px_iim.proofs.reading.Steps.{refused_fault, refused_means, dataset_size_ge, dataset_inside, octets_within}
use Rattle.px_iim.proofs.reading.Steps.{meaning_last, meaning_more, fault_last, fault_more}
use Rattle.px_iim.proofs.reading.Counted.{count_put, count_left, count_next}
use Rattle.px_iim.proofs.read.read_put.Goals as goal

pub loop-record-init : goal.loop-record-init
loop-record-init c = record {
  inside = omega arith;
  meaning = ap (λ (i : Record). option_map (gather i) (datasets c.args.bytes.now)) c.in_ok-record.ensures.none
      ∙ sym (iim_of_within c.args.bytes.now c.requires.bounded);
  faults = sym (iim_left c.args.bytes.now c.requires.bounded);
  memory = refl;
  asked = omega (arith, ap dataset_count c.in_ok-record.ensures.none);
}

judges_at_refuses : (e : Refusal) (x : List ℕ) (at : ℕ) → JudgesAt (Err e) x at
    → first_false (checks_left at (drop at x)) ≡ first_false (iim_checks x) → Refuses e (iim_checks x)
judges_at_refuses (Content cause place) x at h f = sym f ∙ refused_fault at (drop at x) (cause, place) h
judges_at_refuses OutOfMemory x at h f = absurd h

pub returns-in_err-found-clause-judged : goal.returns-in_err-found-clause-judged
returns-in_err-found-clause-judged c =
    let p = err_from_is_err_and c.from_residual-in_err-found.result c.from_residual-in_err-found.ensures.1 in
    rw (p.1, p.2) (judges_at_refuses c.in_err-found.field-0.0 c.args.bytes.now c.loop-record.at c.in_err-found.ensures
    c.loop-record.invariant.faults)

pub push_in-requires : goal.push_in-requires
push_in-requires c = octets_within c.args.bytes.now c.loop-record.at c.in_ok-found.found c.in_ok-found.ensures c.requires.bounded

-- the record has at most as many DataSets as that of the block
pub returns-in_err-found-clause-asked : goal.returns-in_err-found-clause-asked
returns-in_err-found-clause-asked c =
    let (all, means, few) = c.requires.meaning in
    let o = datasets (drop c.loop-record.at c.args.bytes.now) in
    omega (
      arith,
      c.in_ok-record.ensures.asked,
      c.loop-record.invariant.asked,
      count_left c.loop-record.record all o (c.loop-record.invariant.meaning ∙ means),
      few,
    )

pub returns-in_err-push_in-clause-asked : goal.returns-in_err-push_in-clause-asked
returns-in_err-push_in-clause-asked c =
    let x = c.args.bytes.now in
    let f = c.in_ok-found.found in
    let r : Reads (drop c.loop-record.at x) f = c.in_ok-found.ensures in
    let (all, means, few) = c.requires.meaning in
    omega (
      arith,
      c.in_ok-record.ensures.asked,
      c.loop-record.invariant.asked,
      c.in_err-push_in.ensures.asked,
      count_next x c.loop-record.at f r c.loop-record.record all (c.loop-record.invariant.meaning ∙ means),
      few,
    )

pub returns-then-is_end-clause-asked : goal.returns-then-is_end-clause-asked
returns-then-is_end-clause-asked c =
    let x = c.args.bytes.now in
    let f = c.in_ok-found.found in
    let r : Reads (drop c.loop-record.at x) f = c.in_ok-found.ensures in
    let (all, means, few) = c.requires.meaning in
    omega (
      arith,
      c.in_ok-record.ensures.asked,
      c.loop-record.invariant.asked,
      c.in_ok-push_in.ensures.asked,
      count_next x c.loop-record.at f r c.loop-record.record all (c.loop-record.invariant.meaning ∙ means),
      few,
    )

-- what is left of a block that has a record begins with a DataSet
refused_left : (e : Refusal) (x : List ℕ) (at : ℕ) (i all : Record) → JudgesAt (Err e) x at
    → option_map (gather i) (datasets (drop at x)) ≡ Some all → e ≡ OutOfMemory
refused_left (Content cause place) x at i all h s =
    let none = ap (option_map (gather i)) (refused_means at (drop at x) (cause, place) h) in
    let clash : ◌≡◌ {A = Option Record} None (Some all) = sym none ∙ s in absurd (cc)
refused_left OutOfMemory x at i all h s = absurd h

pub returns-in_err-found-clause-read : goal.returns-in_err-found-clause-read
returns-in_err-found-clause-read c =
    let p = err_from_is_err_and c.from_residual-in_err-found.result c.from_residual-in_err-found.ensures.1 in
    let (all, means, few) = c.requires.meaning in
    rw (p.1, p.2) (refused_left c.in_err-found.field-0.0 c.args.bytes.now c.loop-record.at c.loop-record.record all c.in_err-found.ensures
    (c.loop-record.invariant.meaning ∙ means))

pub overflow_add-at : goal.overflow_add-at
overflow_add-at c =
    let l = dataset_inside c.args.bytes.now c.loop-record.at c.in_ok-found.found c.in_ok-found.ensures c.loop-record.invariant.inside in
    record { fits = omega (arith, c.requires.bounded) }

pub rest-requires : goal.rest-requires
rest-requires c = dataset_inside c.args.bytes.now c.loop-record.at c.in_ok-found.found c.in_ok-found.ensures c.loop-record.invariant.inside

pub returns-then-is_end-clause-judged : goal.returns-then-is_end-clause-judged
returns-then-is_end-clause-judged c =
    let x = c.args.bytes.now in
    let f = c.in_ok-found.found in
    let r : Reads (drop c.loop-record.at x) f = c.in_ok-found.ensures in
    let e : is_end (drop (c.loop-record.at + f.size) x) ≡ true = sym (ap is_end c.rest.ensures) ∙ sym c.if-is_end.ensures in (
      sym c.loop-record.invariant.faults ∙ fault_last x c.loop-record.at f r e,
      sym c.loop-record.invariant.meaning ∙ ap (option_map (gather c.loop-record.record)) (meaning_last x c.loop-record.at f r e)
          ∙ gather_last c.loop-record.record (found_view f) ∙ ap (λ (i : Record). Some i) (sym c.in_ok-push_in.ensures.done),
    )

pub loop-record-preserved : goal.loop-record-preserved
loop-record-preserved c =
    let x = c.args.bytes.now in
    let f = c.in_ok-found.found in
    let r : Reads (drop c.loop-record.at x) f = c.in_ok-found.ensures in
    let e : is_end (drop (c.loop-record.at + f.size) x) ≡ false = sym (ap is_end c.rest.ensures) ∙ sym c.if-is_end.ensures in
    let (all, means, few) = c.requires.meaning in
    record {
      inside = dataset_inside x c.loop-record.at f r c.loop-record.invariant.inside;
      meaning = ap (λ (i : Record). option_map (gather i) (datasets (drop (c.loop-record.at + f.size) x))) c.in_ok-push_in.ensures.done
          ∙ sym (gather_more c.loop-record.record (found_view f) (datasets (drop (c.loop-record.at + f.size) x)))
          ∙ ap (option_map (gather c.loop-record.record)) (sym (meaning_more x c.loop-record.at f r e)) ∙ c.loop-record.invariant.meaning;
      faults = sym (fault_more x c.loop-record.at f r e) ∙ c.loop-record.invariant.faults;
      memory = c.in_ok-push_in.ensures.memory ∙ c.loop-record.invariant.memory;
      asked = omega (
        arith,
        c.loop-record.invariant.asked,
        c.in_ok-push_in.ensures.asked,
        ap dataset_count c.in_ok-push_in.ensures.done,
        count_put (found_view f) c.loop-record.record,
        count_next x c.loop-record.at f r c.loop-record.record all (c.loop-record.invariant.meaning ∙ means),
        few,
      );
    }

pub loop-record-smaller : goal.loop-record-smaller
loop-record-smaller c =
    let x = c.args.bytes.now in
    let f = c.in_ok-found.found in
    let r : Reads (drop c.loop-record.at x) f = c.in_ok-found.ensures in
    let l = dataset_inside x c.loop-record.at f r c.loop-record.invariant.inside in
    let w = dataset_size_ge x c.loop-record.at f r in
    omega arith
