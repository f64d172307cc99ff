use Rattle.std.proofs.Common.{◌≡◌, ◌≤◌, ◌∙◌, ◌++◌, ◌∷◌, [], ℕ, List, ap, sym, arith, take, length}
use Rattle.std.specs.List.{insert}
use Rattle.std.proofs.lemmas.List.{take_all, drop_all}
use Rattle.px_iim.specs.declared.group.Item.{Item}
use Rattle.px_iim.proofs.group.put_at.Goals as goal

-- put at the end
insert_at_end : (xs moved : List Item) (at : ℕ) (x : Item) → moved ≡ xs → length xs ≤ at → moved ++ x ∷ [] ≡ insert xs at x
insert_at_end xs moved at x e l =
    ap (λ (ys : List Item). ys ++ x ∷ []) (e ∙ sym (take_all at xs l))
    ∙ ap (λ (ys : List Item). take at xs ++ x ∷ ys) (sym (drop_all at xs l))

pub returns-then-at-len-clause-done : goal.returns-then-at-len-clause-done
returns-then-at-len-clause-done c =
    let here : length c.args.list.now.items ≤ c.args.at =
    omega (arith, c.if-at-len.true, c.len.ensures, c.reserve_more.ensures.len, c.args.list.now.ok.0) in
    c.push_reserved.ensures.items
    ∙ insert_at_end c.args.list.now.items c.reserve_more.new.list.items c.args.at c.args.item c.reserve_more.ensures.items here
