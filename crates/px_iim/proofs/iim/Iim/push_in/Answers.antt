use Rattle.std.proofs.Common.{◌≡◌, ◌∙◌, ◌+◌, ◌<◌, ◌≤◌, ℕ, List, ap, sym, subst, arith, length, map, get_or, refl}
use Rattle.std.specs.List.{insert}
use Rattle.std.proofs.lemmas.List.{length-map}
use Rattle.px_iim.specs.declared.group.Item.{Item}
use Rattle.px_iim.specs.Asking.{dataset_count}
use Rattle.px_iim.specs.Group.{Record, named, put, AreGroups}
use Rattle.px_iim.specs.Record.{normal_dataset, normal_iim}
use Rattle.px_iim.specs.lemmas.BoundLaws.{length_put, length_normal_dataset}
use Rattle.px_iim.specs.calls.Runs.{key_of, runs, InOrder, AreNumbers}
use Rattle.px_iim.specs.calls.View.{dataset_view}
use Rattle.px_iim.specs.Writing.{within}
use Rattle.px_iim.proofs.writing.Writes.{within_counted}
use Rattle.px_iim.proofs.reading.Counted.{count_runs}
use Rattle.px_iim.proofs.reading.Order.{whole_put}
use Rattle.px_iim.proofs.reading.Parts.{inserted_order, inserted_numbers, inserted_put}
use Rattle.px_iim.proofs.iim.Iim.push_in.Goals as goal

-- the list with one more DataSet at its position
put_in : (ss seen new : List Item) (at key : ℕ) (x : Item) → seen ≡ ss → new ≡ insert ss at x
    → key ≡ key_of (dataset_view x) → named (dataset_view x).rec (dataset_view x).number < 256
    → ((k : ℕ) (d : Item) → k < at → key_of (dataset_view (get_or seen k d)) ≤ key)
    → ((k : ℕ) (d : Item) → at ≤ k → k < length seen → key < key_of (dataset_view (get_or seen k d)))
    → InOrder (map dataset_view ss) → AreNumbers (map dataset_view ss)
    → InOrder (map dataset_view new) × AreNumbers (map dataset_view new)
    × (runs (map dataset_view new) ≡ put (dataset_view x) (runs (map dataset_view ss)))
put_in ss seen new at key x s q e byte front after o w =
    let f : (k : ℕ) (d : Item) → k < at → key_of (dataset_view (get_or ss k d)) ≤ key_of (dataset_view x) = λ k d l.
    subst (λ (l : List Item). key_of (dataset_view (get_or l k d)) ≤ key_of (dataset_view x)) s (omega (arith, front k d l, e)) in
    let b : (k : ℕ) (d : Item) → at ≤ k → k < length ss → key_of (dataset_view x) < key_of (dataset_view (get_or ss k d)) = λ k d l j.
    subst (λ (l : List Item). key_of (dataset_view x) < key_of (dataset_view (get_or l k d))) s
    (omega (arith, after k d l (subst (λ (l : List Item). k < length l) (sym s) j), e)) in (
      subst (λ (l : List Item). InOrder (map dataset_view l)) (sym q) (inserted_order ss at x f b o w byte),
      subst (λ (l : List Item). AreNumbers (map dataset_view l)) (sym q) (inserted_numbers ss at x f b o w byte),
      ap (λ (l : List Item). runs (map dataset_view l)) q ∙ inserted_put ss at x f b o w byte,
    )

pub longer-self-inside-requires-clause-counted : goal.longer-self-inside-requires-clause-counted
longer-self-inside-requires-clause-counted c = within_counted c.self.inside.form_len _ c.self.invariant.3

pub invariant_of-self-2 : goal.invariant_of-self-2
invariant_of-self-2 c =
    let x : Item = record { rec = c.args.rec; number = c.args.number; octets = c.args.octets } in
    let d = dataset_view x in
    let ss = c.self.inside.items.items in
    let i = runs (map dataset_view ss) in
    let (order, numbers, e) =
    put_in ss c.deref.result.now c.put_at.new.list.items c.index_after-at.result c.key_of.result x
    c.deref.ensures.value c.in_ok-put_at.ensures.done c.key_of.ensures.value c.key_of.ensures.byte
    (λ k y l. c.index_after-at.ensures.front k y l) (λ k y l j. c.index_after-at.ensures.after k y l j) c.self.invariant.0
    c.self.invariant.1 in
    let whole =
    whole_put d (
      c.ranges.rec.fits,
      record {
        byte = c.ranges.number.fits;
        member = refl;
        bytes = λ k. (c.type_inv.octets k).fits;
        bounded = c.requires;
      },
    ) i c.self.invariant.2 in
    let cost : length (normal_iim i) + length (normal_dataset 0 (d.number, d.octets)) ≡ length (normal_iim (put d i)) =
    omega (arith, length_put d i, length_normal_dataset d.rec (d.number, d.octets), length_normal_dataset 0 (d.number, d.octets)) in (
      order,
      numbers,
      subst AreGroups (sym e) whole,
      c.longer-self-inside.ensures (length (normal_iim i)) c.self.invariant.3 ∙ ap within cost
          ∙ ap (λ (j : Record). within (length (normal_iim j))) (sym e),
    )

pub returns-clause-done : goal.returns-clause-done
returns-clause-done c =
    let x : Item = record { rec = c.args.rec; number = c.args.number; octets = c.args.octets } in
    let (order, numbers, e) =
    put_in c.self.inside.items.items c.deref.result.now c.put_at.new.list.items c.index_after-at.result
    c.key_of.result x c.deref.ensures.value c.in_ok-put_at.ensures.done c.key_of.ensures.value
    c.key_of.ensures.byte (λ k y l. c.index_after-at.ensures.front k y l) (λ k y l j. c.index_after-at.ensures.after k y l j)
    c.self.invariant.0 c.self.invariant.1 in
    e ∙ ap (put (dataset_view x)) c.self.view_is

pub returns-in_err-put_at-clause-asked : goal.returns-in_err-put_at-clause-asked
returns-in_err-put_at-clause-asked c =
    let ss = c.self.inside.items.items in
    omega (
      arith,
      c.in_err-put_at.ensures.asked,
      count_runs (map dataset_view ss),
      length-map ss dataset_view,
      c.self.inside.items.ok.0,
      ap dataset_count c.self.view_is,
    )

pub returns-clause-asked : goal.returns-clause-asked
returns-clause-asked c =
    let ss = c.self.inside.items.items in
    omega (
      arith,
      c.in_ok-put_at.ensures.asked,
      count_runs (map dataset_view ss),
      length-map ss dataset_view,
      c.self.inside.items.ok.0,
      ap dataset_count c.self.view_is,
    )
