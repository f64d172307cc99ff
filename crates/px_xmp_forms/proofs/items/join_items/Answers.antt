use Rattle.std.proofs.Common.{◌≡◌, ◌<◌, ◌≤◌, ◌++◌, ◌∷◌, ◌+◌, suc, add-one, List, ℕ, [], ◌∙◌, sym, ap, subst, drop, get_or, append_assoc, append-nil}
use Rattle.std.proofs.Common.{arith, length, length-append}
use Rattle.std.proofs.lemmas.List.{drop_all, length_push}
use Rattle.std.proofs.lemmas.Iterator.Adapters.{YieldsList-from_vec}
use Rattle.std.proofs.lemmas.Iterator.Consumers.{YieldsList-turn, YieldsList-end}
use Rattle.std.proofs.lemmas.Result.{err_from_is_err_and}
use Rattle.std.proofs.Math.Seq.{drop-cons}
use Rattle.px_xmp_forms.specs.declared.items.Item.{Item}
use Rattle.px_xmp_text.specs.Values.{written}
use Rattle.px_xmp_forms.specs.Forms.{most}
use Rattle.px_xmp_forms.specs.Entries.{row}
use Rattle.px_xmp_forms.specs.Outputs.{AreItems}
use Rattle.px_xmp_forms.proofs.EntryLaws.{items_next, items_end}
use Rattle.px_xmp_forms.proofs.items.join_items.Goals as goal

pub loop-item-init : goal.loop-item-init
loop-item-init c =
    record {
      value = λ es h. (es, h, sym (ap (λ (z : List ℕ). z ++ written (row es) []) c.in_ok-joined.ensures.value));
      failed_allocations = c.in_ok-joined.ensures.memory;
    }

-- the items from an index on are the one there and those after it
item_next : (xs : List Item) (n : ℕ) (x : Item) → n < length xs → x ≡ get_or xs n x → drop n xs ≡ x ∷ drop (n + 1) xs
item_next xs n x h e = rw add-one (drop-cons xs n x h ∙ ap (λ (z : Item). z ∷ drop (suc n) xs) (sym e))

pub loop-item-preserved : goal.loop-item-preserved
loop-item-preserved c =
    let xs = c.args.items.items in
    let gives = c.into_iter-item-iterator.ensures.into_iter_gives in
    let road = YieldsList-from_vec {s = c.into_iter-item-iterator.result} xs gives.0 (gives.1 ∙ c.args.items.ok.0) in
    let t = YieldsList-turn road c.loop-item.yielded c.loop-item.item-iterator c.loop-item.yielded_by c.next.result c.next.new.self c.in-Some.item c.in-Some.is
    c.next.ensures.steps in
    let n = length c.loop-item.yielded in
    let next = item_next xs n c.in-Some.item t.0 t.1 in
    record {
      value = λ es h.
          let (fs, a, f) = c.loop-item.invariant.value es h in
          let (gs, b, g) = items_next _ (drop (n + 1) xs) c.in-Some.item fs a next in
          let w = written (row gs) [] in (
            gs,
            subst (λ (k : ℕ). AreItems (drop k xs) gs) (sym (length_push c.loop-item.yielded c.in-Some.item)) b,
            f ∙ ap (λ (z : List ℕ). c.loop-item.joined ++ z) g
                ∙ sym (append_assoc c.loop-item.joined c.in-Some.item.element.piece w)
                ∙ ap (λ (z : List ℕ). z ++ w) (sym c.in_ok-joined-2.ensures.value),
          );
      failed_allocations = c.in_ok-joined-2.ensures.memory ∙ c.loop-item.invariant.failed_allocations;
    }

pub returns-clause-value : goal.returns-clause-value
returns-clause-value c es h =
    let xs = c.args.items.items in
    let gives = c.into_iter-item-iterator.ensures.into_iter_gives in
    let road = YieldsList-from_vec {s = c.into_iter-item-iterator.result} xs gives.0 (gives.1 ∙ c.args.items.ok.0) in
    let e = YieldsList-end road c.loop-item.yielded c.loop-item.item-iterator c.loop-item.yielded_by c.next.result c.next.new.self c.in-None.is c.next.ensures.steps in
    let (fs, a, f) = c.loop-item.invariant.value es h in
    let none = items_end _ fs (drop_all (length c.loop-item.yielded) xs (omega (arith, e.1))) a in
    sym (f ∙ ap (λ (z : List ℕ). c.loop-item.joined ++ z) none ∙ append-nil c.loop-item.joined)

pub returns-in_err-joined-2-clause-accepts : goal.returns-in_err-joined-2-clause-accepts
returns-in_err-joined-2-clause-accepts c es h fits =
    let xs = c.args.items.items in
    let gives = c.into_iter-item-iterator.ensures.into_iter_gives in
    let road = YieldsList-from_vec {s = c.into_iter-item-iterator.result} xs gives.0 (gives.1 ∙ c.args.items.ok.0) in
    let t = YieldsList-turn road c.loop-item.yielded c.loop-item.item-iterator c.loop-item.yielded_by c.next.result c.next.new.self c.in-Some.item c.in-Some.is
    c.next.ensures.steps in
    let n = length c.loop-item.yielded in
    let (fs, a, f) = c.loop-item.invariant.value es h in
    let (gs, b, g) = items_next _ (drop (n + 1) xs) c.in-Some.item fs a (item_next xs n c.in-Some.item t.0 t.1) in
    let few : length c.loop-item.joined + length c.in-Some.item.element.piece ≤ most =
    omega (arith, fits, ap length f, ap length g, length-append {A = ℕ}) in
    let p = err_from_is_err_and c.from_residual-in_err-joined-2.result c.from_residual-in_err-joined-2.ensures.1 in
    rw (p.1, p.2) (c.in_err-joined-2.ensures.accepts few)
