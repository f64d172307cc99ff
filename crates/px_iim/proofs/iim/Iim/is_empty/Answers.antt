use Rattle.std.proofs.Common.{◌≡◌, ◌≤◌, ◌==◌, ◌∷◌, [], ℕ, false, List, length, map, refl, sym, ap, ◌∙◌, arith, vec_len}
use Rattle.std.proofs.lemmas.Bool.Decides.{nat_tests}
use Rattle.px_iim.specs.declared.group.Item.{Item}
use Rattle.px_iim.specs.Group.{Record}
use Rattle.px_iim.specs.calls.Runs.{runs}
use Rattle.px_iim.specs.calls.View.{dataset_view}
use Rattle.px_iim.proofs.reading.Runs.{join_starts}
use Rattle.px_iim.proofs.iim.Iim.is_empty.Goals as goal

positive_not_zero : (n : ℕ) → 1 ≤ n → (n == 0) ≡ false
positive_not_zero n l = grind (arith, nat_tests)

length_runs_zero : (ss : List Item) → (length ss == 0) ≡ (length (runs (map dataset_view ss)) == 0)
length_runs_zero [] = refl
length_runs_zero (s ∷ ss) =
    let (items, rest, e) = join_starts (dataset_view s) (runs (map dataset_view ss)) in
    positive_not_zero (length (s ∷ ss)) (omega arith) ∙ sym (positive_not_zero (length (runs (map dataset_view (s ∷ ss))))
    (omega (arith, ap length e)))

pub returns : goal.returns
returns c =
    let v = c.self.inside.items in
    let l : vec_len v ≡ length v.items = omega (arith, v.ok.0) in
    c.is_empty.ensures ∙ ap (λ (n : ℕ). n == 0) l ∙ length_runs_zero v.items ∙ ap (λ (i : Record). length i == 0) c.self.view_is
