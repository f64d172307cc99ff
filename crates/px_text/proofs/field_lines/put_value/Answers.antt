use Rattle.std.proofs.Common.{refl, rules}
use Rattle.px_text.proofs.Shown.{shown_as_bytes}
use Rattle.px_text.proofs.field_lines.put_value.Goals as goal

pub returns-in-Some : goal.returns-in-Some
returns-in-Some g c = (
  rw (shown_as_bytes c.args.value.now.kind c.args.value.now.elements c.in-Some.bytes.now (c.in-Some.ensures.which.0 refl)
      c.in-Some.ensures.elements) c.put_shown.ensures.0,
  search rules,
)
