use Rattle.std.proofs.Common.{◌≡◌, ℕ, ◌+◌, ◌<◌, ◌≤◌, ◌++◌, List, [], ◌∷◌, get_or, nat_lt, ◌∙◌, ap, sym, lt-ltb}
use Rattle.std.proofs.lemmas.Bool.{cond-true, cond-false}
use Rattle.px_bytes.specs.declared.Order.TheVariants.{Most}
use Rattle.px_bytes.specs.Numbers.{spelling}
use Rattle.px_iim.specs.DataSet.{marker, top_bit}
use Rattle.px_iim.specs.Record.{normal_count}
use Rattle.px_iim.specs.calls.Heads.{normal_head}
use Rattle.px_iim.proofs.reading.Octets.{not_less}
use Rattle.px_iim.proofs.head.head.Goals as goal

normal_count_standard : (n : ℕ) (xs : List ℕ) → n < top_bit → xs ≡ spelling Most 2 n
    → ◌≡◌ {A = List ℕ} (get_or xs 0 0 ∷ get_or xs 1 0 ∷ []) (normal_count n)
unfolding normal_count
normal_count_standard n xs l e = ap (λ (ys : List ℕ). let zs : List ℕ = get_or ys 0 0 ∷ get_or ys 1 0 ∷ [] in zs) e
    ∙ sym (cond-true (nat_lt n top_bit) _ _ (lt-ltb n top_bit l))

normal_count_extended : (n : ℕ) (xs ys : List ℕ) → top_bit ≤ n → xs ≡ spelling Most 2 (top_bit + 4) → ys ≡ spelling Most 4 n
    → ◌≡◌ {A = List ℕ} (get_or xs 0 0 ∷ get_or xs 1 0 ∷ get_or ys 0 0 ∷ get_or ys 1 0 ∷ get_or ys 2 0 ∷ get_or ys 3 0 ∷ []) (normal_count n)
unfolding normal_count
normal_count_extended n xs ys l e f =
    ap (λ (zs : List ℕ). let l : List ℕ =
    get_or zs 0 0 ∷ get_or zs 1 0 ∷ get_or ys 0 0 ∷ get_or ys 1 0 ∷ get_or ys 2 0 ∷ get_or ys 3 0 ∷ [] in l) e
    ∙ ap (λ (zs : List ℕ). spelling Most 2 (top_bit + 4) ++ get_or zs 0 0 ∷ get_or zs 1 0 ∷ get_or zs 2 0 ∷ get_or zs 3 0 ∷ []) f
    ∙ sym (cond-false (nat_lt n top_bit) _ _ (not_less n top_bit l))

normal_head_of_count : (rec number n : ℕ) (xs : List ℕ) → xs ≡ normal_count n
    → ◌≡◌ {A = List ℕ} (marker ∷ rec ∷ number ∷ xs) (normal_head rec number n)
unfolding normal_head
normal_head_of_count rec number n xs e = ap (λ (ys : List ℕ). marker ∷ rec ∷ number ∷ ys) e

pub returns-then-count-lt-TOP_BIT-clause-encoded : goal.returns-then-count-lt-TOP_BIT-clause-encoded
returns-then-count-lt-TOP_BIT-clause-encoded c =
    normal_head_of_count c.args.rec c.args.number c.args.count _
    (normal_count_standard c.args.count c.two_octets.result c.if-count-lt-TOP_BIT.true
    c.two_octets.ensures)

pub returns-clause-encoded : goal.returns-clause-encoded
returns-clause-encoded c =
    normal_head_of_count c.args.rec c.args.number c.args.count _
    (normal_count_extended c.args.count c.two_octets-2.result c.four_octets.result
    c.if-count-lt-TOP_BIT.false c.two_octets-2.ensures c.four_octets.ensures)
