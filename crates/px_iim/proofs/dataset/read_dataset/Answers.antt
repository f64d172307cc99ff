use Rattle.std.proofs.Common.{◌≡◌, ℕ, ◌+◌, ◌≤◌, true, List, length, sym, arith, le-leb}
use Rattle.std.proofs.lemmas.Bool.{and_from}
use Rattle.px_iim.specs.Record.{extra, size, is_marked, has_form, is_dataset}
use Rattle.px_iim.proofs.reading.Octets.{dataset_value}
use Rattle.px_iim.proofs.dataset.read_dataset.Goals as goal

is_dataset_from_parts : (x : List ℕ) → is_marked x ≡ true → 5 ≤ length x → has_form x ≡ true → 5 + extra x ≤ length x → size x ≤ length x
    → is_dataset x ≡ true
unfolding is_dataset
is_dataset_from_parts x a b d e f =
    and_from _ _ (and_from _ _ (and_from _ _ (and_from _ _ a (le-leb 5 (length x) b)) d) (le-leb (5 + extra x) (length x) e))
    (le-leb (size x) (length x) f)

pub returns : goal.returns
returns c =
    let x = c.args.octets.now in
    let f = c.form-pair.ensures.value in
    let k = c.extra.ensures.value x f in
    let n = c.count-count.ensures in
    record {
      there = is_dataset_from_parts x (sym c.if-not-is_marked.ensures) c.if-octets-lt5.false (sym (c.if-not-has_form.ensures x f))
          (omega (arith, c.if-octets-start.false)) (omega (arith, c.if-octets-start.false, c.if-octets-start-2.false));
      value = dataset_value x c.extra.result c.count-count.result k n;
      sized = omega arith;
    }
