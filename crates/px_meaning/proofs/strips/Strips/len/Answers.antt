use Rattle.std.proofs.Common.{ℕ, ◌+◌, map, sym, ap₂, ◌∙◌}
use Rattle.std.proofs.lemmas.List.{length-map}
use Rattle.px_meaning.proofs.tables.StripBytes.{strips_length}
use Rattle.px_meaning.proofs.strips.Strips.len.Goals as goal

pub returns : goal.returns
returns c =
    let list = c.self.inside.list in
    let pushed = map (λ x. x.now) list.items in
    rw (← c.self.view_is) (
    ap₂ (λ (m n : ℕ). m + n) c.count.ensures.count (c.len-2.ensures ∙ list.ok.0 ∙ sym (length-map list.items (λ x. x.now)))
    ∙ sym (strips_length c.self.inside.named c.in-Some.lists c.in-Some.is c.self.invariant pushed))
