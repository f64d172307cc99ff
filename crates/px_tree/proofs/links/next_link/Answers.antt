use Rattle.std.proofs.Common.{◌≡◌, ℕ, ◌+◌, ◌*◌, Some, None, Bool, if◌then◌else◌, sym, ap, ◌∙◌, ne_eqb}
use Rattle.px_bytes.specs.Parts.{part}
use Rattle.px_meaning.specs.Entry.{long}
use Rattle.px_meaning.specs.Directory.{unless_zero}
use Rattle.px_tree.proofs.reading.Pointers.{next_is, length_is}
use Rattle.px_tree.proofs.links.next_link.Goals as goal

zero_is : (n m : ℕ) → n ≡ 0 → m ≡ n → None ≡ unless_zero m
zero_is n m z e = sym (ap (λ (x : ℕ). unless_zero x) (e ∙ z))

some_is : (n m : ℕ) → (n ≡ 0 → ⊥) → m ≡ n → Some n ≡ unless_zero m
some_is n m z e = sym (ap (λ (x : ℕ). unless_zero x) e ∙ ap (λ (t : Bool). if t then None else Some n) (ne_eqb n 0 z))

pub returns-then-next-eq0-clause-leads : goal.returns-then-next-eq0-clause-leads
returns-then-next-eq0-clause-leads c =
    let from : c.from.result ≡ c.args.count = cc in
    zero_is c.number32-next.result _ c.if-next-eq0.true
    (next_is c.args.block.now c.args.order c.args.at c.args.count c.requires.has_table
    ∙ ap (λ (n : ℕ). long c.args.order (part c.args.block.now (c.args.at + 2 + 12 * n) 4)) (sym from) ∙ sym c.number32-next.ensures)

pub returns-clause-leads : goal.returns-clause-leads
returns-clause-leads c =
    let from : c.from.result ≡ c.args.count = cc in
    some_is c.number32-next.result _ c.if-next-eq0.false
    (next_is c.args.block.now c.args.order c.args.at c.args.count c.requires.has_table
    ∙ ap (λ (n : ℕ). long c.args.order (part c.args.block.now (c.args.at + 2 + 12 * n) 4)) (sym from) ∙ sym c.number32-next.ensures)

pub returns-clause-place : goal.returns-clause-place
returns-clause-place c =
    let from : c.from.result ≡ c.args.count = cc in
    let len = length_is c.args.block.now c.args.order c.args.at c.args.count c.requires.has_table in
    ap (λ (n : ℕ). c.args.at + 2 + 12 * n) (from ∙ sym len)
