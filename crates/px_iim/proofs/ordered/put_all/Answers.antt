use Rattle.std.proofs.Common.{◌≡◌, ◌∙◌, ◌+◌, ◌++◌, ◌∷◌, [], ℕ, List, Some, false, true, length, map, drop}
use Rattle.std.proofs.Common.{refl, sym, ap, subst, arith, length-append}
use Rattle.std.proofs.lemmas.List.{length-map, map-append}
use Rattle.px_iim.specs.DataSet.{DataSet}
use Rattle.px_iim.specs.Group.{gather}
use Rattle.px_iim.specs.Record.{is_dataset, is_end, normal_iim}
use Rattle.px_iim.specs.calls.Reading.{Reads, found_view}
use Rattle.px_iim.specs.calls.View.{dataset_view}
use Rattle.px_iim.specs.Writing.{within}
use Rattle.px_iim.specs.declared.dataset.Found.{Found}
use Rattle.px_iim.specs.declared.group.Item.{Item}
use Rattle.px_iim.proofs.reading.Steps.{datasets, dataset_inside, dataset_size_ge, octets_within, meaning_last, meaning_more}
use Rattle.px_iim.proofs.reading.Walked.{after, datasets_is, none_read, one_left, last_left, more_left, one_all, rest_is}
use Rattle.px_iim.proofs.reading.RunSteps.{longer_form}
use Rattle.px_iim.proofs.writing.Writes.{within_counted}
use Rattle.px_iim.proofs.ordered.put_all.Goals as goal

pub loop-form_len-init : goal.loop-form_len-init
unfolding gather
loop-form_len-init c = record {
  inside = omega arith;
  reading = λ all e. (
    ap (λ (xs : List Item). after (map dataset_view xs) (datasets c.args.bytes.now)) c.requires.none
        ∙ none_read (datasets c.args.bytes.now) ∙ e,
    ap (λ (xs : List Item). within (length (normal_iim (gather [] (map dataset_view xs))))) (sym c.requires.none),
  );
  capacity = refl;
}

pub judged_dataset-found-requires : goal.judged_dataset-found-requires
judged_dataset-found-requires c =
    let (ds, s, n) = c.requires.meaning in
    let (h, q) = c.loop-form_len.invariant.reading ds (datasets_is c.args.bytes.now ∙ s) in
    ap is_dataset c.rest.ensures ∙ one_left (map dataset_view c.loop-form_len.items.items) ds (drop c.loop-form_len.at c.args.bytes.now) h

pub push_reserved-requires : goal.push_reserved-requires
push_reserved-requires c =
    let x = c.args.bytes.now in
    let f : Found = c.judged_dataset-found.result in
    let r : Reads (drop c.loop-form_len.at x) f = subst (λ (y : List ℕ). Reads y f) c.rest.ensures c.judged_dataset-found.ensures in
    let (ds, s, n) = c.requires.meaning in
    let (h, q) = c.loop-form_len.invariant.reading ds (datasets_is x ∙ s) in
    let (left, w) = rest_is x c.loop-form_len.at f r (map dataset_view c.loop-form_len.items.items) ds h in
    omega (
      arith,
      n,
      ap length w,
      length-append (map dataset_view c.loop-form_len.items.items) (found_view f ∷ left),
      length-map c.loop-form_len.items.items dataset_view,
      c.loop-form_len.items.ok.0,
      c.loop-form_len.invariant.capacity,
    )

pub longer-form_len-requires-clause-counted : goal.longer-form_len-requires-clause-counted
longer-form_len-requires-clause-counted c =
    let (ds, s, n) = c.requires.meaning in
    let (h, q) = c.loop-form_len.invariant.reading ds (datasets_is c.args.bytes.now ∙ s) in
    within_counted c.loop-form_len.form_len _ q

pub longer-form_len-requires-clause-short : goal.longer-form_len-requires-clause-short
longer-form_len-requires-clause-short c =
    let x = c.args.bytes.now in
    let f : Found = c.judged_dataset-found.result in
    let r : Reads (drop c.loop-form_len.at x) f = subst (λ (y : List ℕ). Reads y f) c.rest.ensures c.judged_dataset-found.ensures in
    octets_within x c.loop-form_len.at f r c.requires.bounded

pub overflow_add-at : goal.overflow_add-at
overflow_add-at c =
    let x = c.args.bytes.now in
    let f : Found = c.judged_dataset-found.result in
    let r : Reads (drop c.loop-form_len.at x) f = subst (λ (y : List ℕ). Reads y f) c.rest.ensures c.judged_dataset-found.ensures in
    let l = dataset_inside x c.loop-form_len.at f r c.loop-form_len.invariant.inside in
    record { fits = omega (arith, c.requires.bounded) }

pub rest-requires-in-loop-form_len : goal.rest-requires-in-loop-form_len
rest-requires-in-loop-form_len c =
    let x = c.args.bytes.now in
    let f : Found = c.judged_dataset-found.result in
    let r : Reads (drop c.loop-form_len.at x) f = subst (λ (y : List ℕ). Reads y f) c.rest.ensures c.judged_dataset-found.ensures in
    dataset_inside x c.loop-form_len.at f r c.loop-form_len.invariant.inside

-- the list with one DataSet more
one_more : (old new : List Item) (x : Item) → new ≡ old ++ x ∷ [] → map dataset_view new ≡ map dataset_view old ++ dataset_view x ∷ []
one_more old new x e = ap (map dataset_view) e ∙ map-append dataset_view old (x ∷ [])

pub returns-then-is_end-clause-items : goal.returns-then-is_end-clause-items
returns-then-is_end-clause-items c = λ ds e.
    let x = c.args.bytes.now in
    let at = c.loop-form_len.at in
    let f : Found = c.judged_dataset-found.result in
    let r : Reads (drop at x) f = subst (λ (y : List ℕ). Reads y f) c.rest.ensures c.judged_dataset-found.ensures in
    let ends : is_end (drop (at + f.size) x) ≡ true = sym (ap is_end c.rest-in-loop-form_len.ensures) ∙ sym c.if-is_end.ensures in
    let (h, q) = c.loop-form_len.invariant.reading ds (datasets_is x ∙ e) in
    let front = map dataset_view c.loop-form_len.items.items in
    let whole : ds ≡ front ++ found_view f ∷ [] =
    one_all (front ++ found_view f ∷ []) ds (last_left front (found_view f) (datasets (drop at x)) (Some ds) (meaning_last x at f r ends) h) in
    one_more c.loop-form_len.items.items _ _ c.push_reserved.ensures.items ∙ sym whole

pub returns-then-is_end-clause-form : goal.returns-then-is_end-clause-form
returns-then-is_end-clause-form c = λ ds e.
    let x = c.args.bytes.now in
    let at = c.loop-form_len.at in
    let f : Found = c.judged_dataset-found.result in
    let r : Reads (drop at x) f = subst (λ (y : List ℕ). Reads y f) c.rest.ensures c.judged_dataset-found.ensures in
    let ends : is_end (drop (at + f.size) x) ≡ true = sym (ap is_end c.rest-in-loop-form_len.ensures) ∙ sym c.if-is_end.ensures in
    let (h, q) = c.loop-form_len.invariant.reading ds (datasets_is x ∙ e) in
    let front = map dataset_view c.loop-form_len.items.items in
    let whole : ds ≡ front ++ found_view f ∷ [] =
    one_all (front ++ found_view f ∷ []) ds (last_left front (found_view f) (datasets (drop at x)) (Some ds) (meaning_last x at f r ends) h) in
    longer_form c.longer-form_len.result front (found_view f) (λ n k. c.longer-form_len.ensures n (q ∙ k))
    ∙ ap (λ (y : List DataSet). within (length (normal_iim (gather [] y)))) (sym whole)

pub loop-form_len-preserved : goal.loop-form_len-preserved
loop-form_len-preserved c =
    let x = c.args.bytes.now in
    let at = c.loop-form_len.at in
    let f : Found = c.judged_dataset-found.result in
    let d = found_view f in
    let r : Reads (drop at x) f = subst (λ (y : List ℕ). Reads y f) c.rest.ensures c.judged_dataset-found.ensures in
    let ends : is_end (drop (at + f.size) x) ≡ false = sym (ap is_end c.rest-in-loop-form_len.ensures) ∙ sym c.if-is_end.ensures in
    let front = map dataset_view c.loop-form_len.items.items in
    let grown = one_more c.loop-form_len.items.items _ _ c.push_reserved.ensures.items in
    record {
      inside = dataset_inside x at f r c.loop-form_len.invariant.inside;
      reading = λ all e.
          let (h, q) = c.loop-form_len.invariant.reading all e in (
            ap (λ (y : List DataSet). after y (datasets (drop (at + f.size) x))) grown
                ∙ more_left front d (datasets (drop at x)) (datasets (drop (at + f.size) x)) (Some all) (meaning_more x at f r ends) h,
            longer_form c.longer-form_len.result front d (λ n k. c.longer-form_len.ensures n (q ∙ k))
                ∙ ap (λ (y : List DataSet). within (length (normal_iim (gather [] y)))) (sym grown),
          );
      capacity = c.push_reserved.ensures.capacity ∙ c.loop-form_len.invariant.capacity;
    }

pub loop-form_len-smaller : goal.loop-form_len-smaller
loop-form_len-smaller c =
    let x = c.args.bytes.now in
    let f : Found = c.judged_dataset-found.result in
    let r : Reads (drop c.loop-form_len.at x) f = subst (λ (y : List ℕ). Reads y f) c.rest.ensures c.judged_dataset-found.ensures in
    let l = dataset_inside x c.loop-form_len.at f r c.loop-form_len.invariant.inside in
    let w = dataset_size_ge x c.loop-form_len.at f r in
    omega arith
