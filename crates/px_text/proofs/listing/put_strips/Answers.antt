use Rattle.std.proofs.Common.{◌++◌, ℕ, ap, length, rules}
use Rattle.std.specs.Prelude.{codes, decimal}
use Rattle.std.proofs.lemmas.Result.{err_from_is_err_and}
use Rattle.std.specs.List.{flat_map}
use Rattle.px_bytes.specs.lemmas.WaitingLaws.{puts_both, puts_first}
use Rattle.px_text.specs.Listing.{strip_line}
use Rattle.px_text.proofs.Chains.{owes_as, prefix_as}
use Rattle.px_text.proofs.listing.put_strips.Goals as goal

pub returns-in_err-put_number : goal.returns-in_err-put_number
returns-in_err-put_number g c =
    let p = err_from_is_err_and c.from_residual.result c.from_residual.ensures.1 in
    let buffer = c.args.pending.now in
    let first = codes "strips " ++ decimal (length c.in-Some.strips) ++ codes ":\n" in
    let second = flat_map strip_line c.in-Some.strips in (
      rw c.in-Some.is (rw p.1 (puts_first _ _ buffer first second (prefix_as _ _ buffer _ _
          (ap (λ (n : ℕ). codes "strips " ++ decimal n ++ codes ":\n")
          c.len.ensures) c.in_err-put_number.ensures.0))),
      search rules,
    )

pub returns : goal.returns
returns g c =
    let buffer = c.args.pending.now in
    let first = codes "strips " ++ decimal (length c.in-Some.strips) ++ codes ":\n" in
    let second = flat_map strip_line c.in-Some.strips in (
      rw c.in-Some.is (puts_both c.put_each_strip.result _ _ _ buffer c.put_number.new.pending c.put_each_strip.new.pending first second
          (owes_as _ _ buffer c.put_number.new.pending _ _ (ap (λ (n : ℕ). codes "strips " ++ decimal n ++ codes ":\n") c.len.ensures)
          c.in_ok-put_number.ensures.0) c.put_each_strip.ensures.0),
      search rules,
    )
