use Rattle.std.proofs.Common.{refl, ◌≡◌, ◌<◌, ◌+◌, ◌-◌, ◌++◌, ℕ, suc, Option, None, filter_map, option_map, option_to_list, sym, ap, subst}
use Rattle.std.proofs.Common.{◌∙◌, arith, append-nil, append_assoc, Bool}
use Rattle.std.proofs.lemmas.Result.{err_from_is_err_and}
use Rattle.std.specs.List.{AllByRecursion}
use Rattle.px_bytes.specs.Parts.{part}
use Rattle.px_field.specs.Forms.{form_of}
use Rattle.px_field.specs.Values.{Value}
use Rattle.px_meaning.specs.Tree.{Fields}
use Rattle.px_meaning.specs.Entry.{entry, field, field_value_in, Rising}
use Rattle.px_meaning.specs.calls.Places.{tags}
use Rattle.px_tree.specs.calls.Reading.{entries_from, if_kept}
use Rattle.px_tree.proofs.reading.Kept.{rising_kept, precede_kept}
use Rattle.px_tree.proofs.reading.KeptUses.{UsesSoFar, uses_start, uses_step, uses_end}
use Rattle.px_tree.proofs.reading.Loop.{SoFar, so_far_start, so_far_step, so_far_refuses, so_far_end, fields_step, field_is}
use Rattle.px_tree.proofs.field_reading.read_entries.Goals as goal

pub loop-init : goal.loop-init
loop-init c =
    let b = c.args.source.now.block.now in
    let o = c.args.source.now.order in
    let d = c.args.source.now.dir in
    let n : c.args.count - 0 ≡ c.args.count = omega arith in
    let es = λ (k : ℕ). entries_from b o c.args.start k in
    record {
      place = omega arith;
      rising = subst (λ (l : Fields). Rising (tags l)) (sym c.in_ok-list.ensures.none) tt;
      precede = λ t _. subst (λ (l : Fields). AllByRecursion (λ s. s < t) (tags l)) (sym c.in_ok-list.ensures.none) tt;
      fields = λ _. ap (λ (l : Fields). l ++ filter_map (field b o d) (es (c.args.count - 0))) c.in_ok-list.ensures.none
          ∙ ap (λ (k : ℕ). filter_map (field b o d) (es k)) n;
      judged = λ taken a. subst (λ (k : ℕ). SoFar b o d taken (es c.args.count) c.args.start c.args.claimed.now.ranges c.args.start None k) (sym n)
          (so_far_start b o d taken c.args.start c.args.count c.args.claimed.now.ranges a);
      uses = subst (λ (k : ℕ). UsesSoFar b o c.args.start c.args.count c.no_uses-uses.result c.args.start None k) (sym n)
          (uses_start b o c.args.start c.args.count c.no_uses-uses.result c.no_uses-uses.ensures);
      memory = refl;
      len = omega (arith, c.in_ok-list.ensures.len);
      capacity = c.in_ok-list.ensures.capacity;
      asked = omega arith;
      below = omega arith;
      wide = omega arith;
    }

pub returns-in_err-shape-clause-judged : goal.returns-in_err-shape-clause-judged
returns-in_err-shape-clause-judged c = λ taken a.
    let p = err_from_is_err_and c.from_residual-in_err-shape.result c.from_residual-in_err-shape.ensures.1 in
    let step : c.args.count - c.loop.counter ≡ suc (c.args.count - (c.loop.counter + 1)) = omega arith in
    let s = c.loop.invariant.judged taken a in
    rw (p.1, p.2) (so_far_refuses c.args.source.now.block.now c.args.source.now.order c.args.source.now.dir taken _ _ _ _ _ _ _ step s _
    (c.in_err-shape.ensures.judged s.now s.agrees))

pub keep_field-requires-clause-claimed : goal.keep_field-requires-clause-claimed
keep_field-requires-clause-claimed c =
    let s = c.in_ok-shape.ensures.shape in
    record {
      bounded = c.requires.bounded;
      inside = omega arith;
      shown = s.head;
      known = ap form_of s.head.code
          ∙ s.form;
      whole = c.in_ok-shape.ensures.inside;
    }

pub keep_field-requires-clause-capacity : goal.keep_field-requires-clause-capacity
keep_field-requires-clause-capacity c = λ keeps.
    let capacity = c.loop.invariant.capacity keeps in
    let len = c.loop.invariant.len in
    omega arith

pub loop-preserved : goal.loop-preserved
loop-preserved c =
    let step : c.args.count - c.loop.counter ≡ suc (c.args.count - (c.loop.counter + 1)) = omega arith in
    let b = c.args.source.now.block.now in
    let o = c.args.source.now.order in
    let d = c.args.source.now.dir in
    let s = c.in_ok-shape.shape in
    let shape = c.in_ok-shape.ensures.shape in
    let rest = filter_map (field b o d) (entries_from b o (c.loop.at + 12) (c.args.count - (c.loop.counter + 1))) in
    let e = entry o (part b c.loop.at 12) in
    let v = field_value_in b o e s.role s.form in
    let x = if_kept c.args.source.now.keeps_fields v in
    let kept = c.keep_field.ensures.kept in
    let asked_before = c.loop.invariant.asked in
    let asked_shape = c.in_ok-shape.ensures.asked in
    let below_before = c.loop.invariant.below in
    let below_shape = c.in_ok-shape.ensures.below in
    let below = c.loop.invariant.precede s.head.tag c.in_ok-shape.ensures.follows in
    record {
      place = omega arith;
      rising = rising_kept c.loop.list.items _ s.head.tag x kept c.loop.invariant.rising below;
      precede = precede_kept c.loop.list.items _ s.head.tag x kept below;
      fields = λ keeps.
          ap (λ (l : Fields). l ++ rest) (kept ∙ ap (λ (y : Option (ℕ × Value)). c.loop.list.items ++ option_to_list y)
          (ap (λ (k : Bool). option_map (λ (v : Value). (s.head.tag, v)) (if_kept k v)) keeps
          ∙ ap (λ (t : ℕ). option_map (λ (v : Value). (t, v)) v) shape.head.tag ∙ sym (field_is b o d s e shape)))
          ∙ append_assoc c.loop.list.items (option_to_list (field b o d e)) rest
          ∙ ap (λ (l : Fields). c.loop.list.items ++ l) (sym (fields_step b o d c.loop.at _ _ step))
          ∙ c.loop.invariant.fields keeps;
      judged = λ taken a.
          let w = c.loop.invariant.judged taken a in
          let k = c.in_ok-shape.ensures.judged w.now w.agrees in
          so_far_step b o d taken _ _ _ _ _ _ _ step w _ _ shape.head.tag k.0 k.1;
      uses = uses_step b o c.args.start c.args.count c.loop.at _ _ c.loop.before step (omega arith) s.head shape.head
          c.in_ok-shape.ensures.follows c.loop.uses _ c.loop.invariant.uses c.keep_use.ensures;
      memory = c.in_ok-shape.ensures.memory ∙ c.loop.invariant.memory;
      len = omega (arith, c.loop.invariant.len, c.keep_field.ensures.len);
      capacity = λ keeps. let capacity = c.loop.invariant.capacity keeps in let same = c.keep_field.ensures.capacity in omega arith;
      asked = omega arith;
      below = omega arith;
      wide = omega (arith, c.loop.invariant.wide, c.in_ok-shape.ensures.capacity);
    }

pub returns-clause-judged : goal.returns-clause-judged
returns-clause-judged c = λ taken a.
    let none : c.args.count - c.loop.counter ≡ 0 = omega arith in
    let b = c.args.source.now.block.now in
    let o = c.args.source.now.order in
    let d = c.args.source.now.dir in
    let end = so_far_end b o d taken _ _ _ _ _ _ none (c.loop.invariant.judged taken a) in (
      end.0,
      (
        λ keeps. c.of_list-fields.ensures ∙ sym (append-nil c.loop.list.items) ∙ ap (λ (k : ℕ). c.loop.list.items ++ filter_map (field b o d) (entries_from b o c.loop.at k))
            (sym none) ∙ c.loop.invariant.fields keeps,
        end.1,
      ),
    )

pub returns-clause-uses : goal.returns-clause-uses
returns-clause-uses c =
    let none : c.args.count - c.loop.counter ≡ 0 = omega arith in
    uses_end c.args.source.now.block.now c.args.source.now.order c.args.start c.args.count c.loop.uses _ _ _ none c.loop.invariant.uses

pub returns-in_err-list-clause-asked : goal.returns-in_err-list-clause-asked
returns-in_err-list-clause-asked c =
    let fields = c.in_err-list.ensures.asked in
    omega arith

pub returns-in_err-shape-clause-asked : goal.returns-in_err-shape-clause-asked
returns-in_err-shape-clause-asked c =
    let fields = c.in_ok-list.ensures.asked in
    let before = c.loop.invariant.asked in
    let shape = c.in_err-shape.ensures.asked in
    omega arith

pub returns-in_err-shape-clause-below : goal.returns-in_err-shape-clause-below
returns-in_err-shape-clause-below c =
    let before = c.loop.invariant.below in
    let shape = c.in_err-shape.ensures.below in
    omega arith

pub returns-clause-asked : goal.returns-clause-asked
returns-clause-asked c =
    let fields = c.in_ok-list.ensures.asked in
    let before = c.loop.invariant.asked in
    omega arith
