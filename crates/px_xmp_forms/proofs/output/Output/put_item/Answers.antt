use Rattle.std.proofs.Common.{◌≡◌, ◌+◌, ◌-◌, ◌++◌, [], ◌∷◌, List, length, refl, sym, subst, arith}
use Rattle.std.specs.Vec.{vec_len}
use Rattle.px_xmp_forms.specs.Outputs.{Open, AreItems, IsLevel, with_entry}
use Rattle.px_xmp_forms.specs.declared.items.Item.{Item}
use Rattle.px_xmp_forms.specs.declared.output.Level.{Level}
use Rattle.px_xmp_forms.proofs.EntryLaws.{items_push}
use Rattle.px_xmp_forms.proofs.OutputLaws.{level_changed}
use Rattle.px_xmp_forms.proofs.output.Output.put_item.Goals as goal

pub returns-clause-value : goal.returns-clause-value
returns-clause-value c s e h k =
    let levels = c.args.self.now.levels in
    let some = c.in-Some.ensures.variant.0 refl in
    let len : length levels.items ≡ vec_len levels - 1 + 1 = omega (arith, levels.ok.0) in
    let x = c.in-Some.level.now in
    let y : Level = record { text = x.text; inner = x.inner; items = c.push.new.list } in
    let changes : (o : Open) → IsLevel x o → IsLevel y (with_entry e o) = λ o l.
    record {
      text = l.text;
      inner = l.inner;
      can = l.can;
      short = l.short;
      entries = subst (λ (xs : List Item). AreItems xs (o.entries ++ e ∷ [])) (sym c.in_ok-push.ensures.items) (items_push _ o.entries c.args.item e l.entries k);
    } in
    record {
      levels = level_changed (with_entry e) levels.items s.opened _ x y len c.in-Some.ensures.value changes h.levels;
      properties = h.properties;
      can = h.can;
      short = h.short;
      order = h.order;
    }
