-- The number that octets encode, with one more octet; and the DataSet that they mean.
use Rattle.std.proofs.Common.{◌≡◌, ℕ, ◌+◌, ◌*◌, ◌^◌, ◌<◌, ◌≤◌, zero, suc, List, slice_index, ap, ◌∙◌, arith, ◌-◌, nat_lt, false, length}
use Rattle.std.proofs.Common.{take, drop, length-drop, length-take-le}
use Rattle.px_bytes.specs.declared.Order.TheVariants.{Most}
use Rattle.px_bytes.specs.Numbers.{number, AreBytes}
use Rattle.px_bytes.specs.Parts.{part}
use Rattle.px_iim.specs.DataSet.{DataSet}
use Rattle.px_iim.specs.Record.{extra, count, dataset}
use Rattle.px_bytes.specs.lemmas.NumberLaws.{number_lt, number_take}
use Rattle.std.proofs.lemmas.Bool.Decides.{nat_tests}

-- a count has at most four octets
pub number_more : (n : ℕ) (xs : List ℕ) → n < 4 → number Most (n + 1) xs ≡ 256 * number Most n xs + slice_index xs n
number_more zero xs h = omega arith
number_more (suc zero) xs h = omega arith
number_more (suc (suc zero)) xs h = omega arith
number_more (suc (suc (suc zero))) xs h = omega arith
number_more (suc (suc (suc (suc n)))) xs h = absurd (omega arith)

few_octets : (n : ℕ) → n < 4 → 256 ^ n ≤ 16777216
few_octets zero h = omega arith
few_octets (suc zero) h = omega arith
few_octets (suc (suc zero)) h = omega arith
few_octets (suc (suc (suc zero))) h = omega arith
few_octets (suc (suc (suc (suc n)))) h = absurd (omega arith)

pub number_below : (n : ℕ) (xs : List ℕ) → n < 4 → AreBytes xs → number Most n xs < 16777216
number_below n xs h b = let l = number_lt Most n xs b in let m = few_octets n h in omega arith

pub not_less : (a b : ℕ) → b ≤ a → nat_lt a b ≡ false
not_less a b h = grind (arith, nat_tests)

-- the octets of an extended count
pub number_part : (x : List ℕ) (k e : ℕ) → k ≡ e → 5 + e ≤ length x
    → number Most (length (take (5 + k - 5) (drop 5 x))) (take (5 + k - 5) (drop 5 x)) ≡ number Most e (drop 5 x)
number_part x k e q h =
    let same : 5 + k - 5 ≡ e = omega arith in
    let space : e ≤ length (drop 5 x) = omega (arith, length-drop 5 x) in
    ap (λ (n : ℕ). number Most (length (take n (drop 5 x))) (take n (drop 5 x))) same
    ∙ ap (λ (n : ℕ). number Most n (take e (drop 5 x))) (length-take-le e (drop 5 x) space)
    ∙ number_take Most e e (drop 5 x) (omega arith)

-- what is cut out is the first DataSet
pub dataset_value : (x : List ℕ) (k n : ℕ) → k ≡ extra x → n ≡ count x → ◌≡◌ {A = DataSet}
    (record { rec = slice_index x 1; number = slice_index x 2; octets = take (5 + k + n - (5 + k)) (drop (5 + k) x) }) (dataset x)
unfolding dataset
dataset_value x k n a b =
    let same : 5 + k + n - (5 + k) ≡ n = omega arith in
    let octets : take (5 + k + n - (5 + k)) (drop (5 + k) x) ≡ part x (5 + extra x) (count x) =
    ap (λ (m : ℕ). take m (drop (5 + k) x)) (same ∙ b) ∙ ap (λ (m : ℕ). take (count x) (drop (5 + m) x)) a in
    ap (λ (o : List ℕ). let d : DataSet = record { rec = slice_index x 1; number = slice_index x 2; octets = o } in d) octets
