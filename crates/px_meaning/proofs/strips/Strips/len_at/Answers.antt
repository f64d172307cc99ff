use Rattle.std.proofs.Common.{ℕ, Option, List, length, map, slice_get, ap, ◌∙◌}
use Rattle.px_meaning.specs.declared.strip_lists.StripLists.{StripLists}
use Rattle.px_meaning.specs.calls.Strips.{named_strips}
use Rattle.px_meaning.proofs.tables.StripRuns.{len_front, len_read}
use Rattle.px_meaning.proofs.strips.Strips.len_at.Goals as goal

pub returns-then-i-count : goal.returns-then-i-count
returns-then-i-count c =
    let named = c.self.inside.named in
    let pushed = map (λ x. x.now) c.self.inside.list.items in
    rw (← c.self.view_is) (
    len_front (named_strips named) pushed c.args.i c.strip_len.result (
    ap (λ (o : Option StripLists). slice_get (map {A = List ℕ} {B = ℕ} (λ x. length x) (named_strips o)) c.args.i) c.in-Some.is
    ∙ c.strip_len.ensures))

pub returns : goal.returns
returns c = len_read c.args.self.now c.args.i c.at.result.now c.at.ensures
