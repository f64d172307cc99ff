-- Entries as parts of a block.
use Rattle.std.proofs.Common.{◌≡◌, ℕ, zero, suc, ◌+◌, ◌-◌, ◌*◌, ◌≤◌, List, ◌∷◌, drop, map, refl, ap, ap₂, ◌∙◌, arith}
use Rattle.std.proofs.lemmas.List.{take-take}
use Rattle.px_bytes.specs.declared.Order.{Order}
use Rattle.px_bytes.specs.Parts.{part, pieces}
use Rattle.px_bytes.specs.lemmas.PartLaws.{drop_part}
use Rattle.px_meaning.specs.Entry.{Entry, entry}
use Rattle.px_tree.specs.calls.Reading.{entries_from}

-- the entries of a table, offset by offset
pub pieces_from : (b : List ℕ) (o : Order) (p m n : ℕ) → 12 * n ≤ m → map (entry o) (pieces n 12 (part b p m)) ≡ entries_from b o p n
pieces_from b o p m zero h = refl
pieces_from b o p m (suc n) h =
    ap₂ (λ (e : Entry) (es : List Entry). e ∷ es)
    (ap (entry o) (take-take 12 m (drop p b) (omega arith)))
    (ap (λ (x : List ℕ). map (entry o) (pieces n 12 x)) (drop_part b p m 12 (omega arith))
    ∙ pieces_from b o (p + 12) (m - 12) n (omega arith))
