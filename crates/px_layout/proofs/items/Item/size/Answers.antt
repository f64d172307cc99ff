use Rattle.std.proofs.Common.{◌*◌, ap, ap₂, ◌∙◌}
use Rattle.px_field.specs.Forms.{size}
use Rattle.px_meaning.specs.Writable.{item_size}
use Rattle.px_layout.proofs.items.Item.size.Goals as goal

pub returns-in-Field : goal.returns-in-Field
unfolding item_size
returns-in-Field c = rw c.in-Field.is c.size.ensures.elements

pub returns-in_default : goal.returns-in_default
unfolding item_size
returns-in_default c =
    ap₂ (λ x y. x * y) (c.from.ensures ∙ c.count.ensures) (c.from-in_default.ensures ∙ c.size-in_default.ensures ∙ ap size c.form.ensures)
