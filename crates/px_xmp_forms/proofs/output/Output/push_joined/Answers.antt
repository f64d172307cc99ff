use Rattle.std.proofs.Common.{[], List, sym, subst}
use Rattle.px_xmp_forms.specs.Entries.{row}
use Rattle.px_xmp_forms.specs.Outputs.{AreItems}
use Rattle.px_xmp_forms.specs.declared.items.Item.{Item}
use Rattle.px_xmp_forms.proofs.EntryLaws.{items_can, items_short}
use Rattle.px_xmp_forms.proofs.output.Output.push_joined.Goals as goal

pub returns-clause-value : goal.returns-clause-value
returns-clause-value c s t es h e a =
    c.push.ensures.value s (record { text = t; inner = row es; entries = [] }) h (record {
      text = e;
      inner = c.in_ok-join_items.ensures.value es a;
      can = items_can _ es a;
      short = items_short _ es a;
      entries = subst (λ (xs : List Item). AreItems xs []) (sym c.list.ensures.items) tt;
    })
