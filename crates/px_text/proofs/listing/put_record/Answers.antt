use Rattle.std.proofs.Common.{◌++◌, ℕ, ap, rules}
use Rattle.std.specs.Prelude.{codes, decimal}
use Rattle.std.proofs.lemmas.Result.{err_from_is_err_and}
use Rattle.px_bytes.specs.lemmas.WaitingLaws.{puts_both, puts_first}
use Rattle.px_iim.specs.Asking.{dataset_count}
use Rattle.px_text.specs.Listing.{dataset_lines}
use Rattle.px_text.proofs.Chains.{owes_as, prefix_as}
use Rattle.px_text.proofs.listing.put_record.Goals as goal

pub returns-in_err-put_number : goal.returns-in_err-put_number
returns-in_err-put_number g c =
    let p = err_from_is_err_and c.from_residual.result c.from_residual.ensures.1 in
    let buffer = c.args.pending.now in
    let first = codes "record " ++ decimal (dataset_count c.in-Some.iim) ++ codes ":\n" in
    let second = dataset_lines c.in-Some.iim in (
      rw c.in-Some.is (rw p.1 (puts_first _ _ buffer first second (prefix_as _ _ buffer _ _
          (ap (λ (n : ℕ). codes "record " ++ decimal n ++ codes ":\n")
          c.count_datasets.ensures) c.in_err-put_number.ensures.0))),
      search rules,
    )

pub returns : goal.returns
returns g c =
    let buffer = c.args.pending.now in
    let first = codes "record " ++ decimal (dataset_count c.in-Some.iim) ++ codes ":\n" in
    let second = dataset_lines c.in-Some.iim in (
      rw c.in-Some.is (puts_both c.put_datasets.result _ _ _ buffer c.put_number.new.pending c.put_datasets.new.pending first second
          (owes_as _ _ buffer c.put_number.new.pending _ _ (ap (λ (n : ℕ). codes "record " ++ decimal n ++ codes ":\n")
          c.count_datasets.ensures)
          c.in_ok-put_number.ensures.0) c.put_datasets.ensures.0),
      search rules,
    )
