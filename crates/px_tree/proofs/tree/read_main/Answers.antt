use Rattle.std.proofs.Common.{◌≡◌, ◌++◌, ◌∷◌, [], refl, subst, true, arith}
use Rattle.std.proofs.lemmas.Result.{err_from_is_err_and}
use Rattle.px_bytes.specs.declared.Cause.TheVariants.{Overlap}
use Rattle.px_bytes.specs.Range.{range, is_free, Agrees}
use Rattle.px_bytes.specs.lemmas.RangeLaws.{agrees_none}
use Rattle.px_bytes.specs.Checks.{check, Judges}
use Rattle.px_meaning.specs.declared.Dir.{Dir}
use Rattle.px_meaning.specs.Entry.{fields}
use Rattle.px_meaning.specs.Footprint.{dir_ranges}
use Rattle.px_tree.specs.declared.tables.Directory.{Directory}
use Rattle.px_tree.specs.Checks.{dir_checks}
use Rattle.px_bytes.specs.lemmas.CheckLaws.{Refuses_none}
use Rattle.px_tree.proofs.assembling.Started.{main_judged}
use Rattle.px_tree.proofs.tree.read_main.Goals as goal

pub returns-in_err-claim_range-clause-judged : goal.returns-in_err-claim_range-clause-judged
returns-in_err-claim_range-clause-judged c =
    let p = err_from_is_err_and c.from_residual.result c.from_residual.ensures.1 in
    let a = agrees_none _ c.requires.none in
    rw (p.1, p.2) (Refuses_none c.in_err-claim_range.field-0.0 (check Overlap 0 (is_free [] (range 0 8)) ∷ []) _ refl
    (c.in_err-claim_range.ensures.judged [] a))

pub returns-clause-judged : goal.returns-clause-judged
returns-clause-judged c =
    let b = c.args.source.now.block.now in
    let o = c.args.source.now.order in
    let keeps = c.args.source.now.keeps_fields in
    let l = c.link_to_main-link.result in
    let h = (c.in_ok-claim_range.ensures.judged [] (agrees_none _ c.requires.none)).1 in
    let claimed = c.read_directory.new.claimed.ranges in
    main_judged b o keeps l c.link_to_main-link.ensures c.read_directory.result claimed
    (subst (λ (d : Dir). Judges c.read_directory.result (dir_checks b o [] (range 0 8 ∷ []) l.place d l.at)
    (λ (t : Directory). (keeps ≡ true → t.fields ≡ fields b o d l.at) × Agrees (dir_ranges b o l.at ++ range 0 8 ∷ []) claimed))
    c.requires.main (c.read_directory.ensures.judged (range 0 8 ∷ []) h)) c.read_directory.ensures.there c.read_directory.ensures.uses

pub returns-in_err-claim_range-clause-asked : goal.returns-in_err-claim_range-clause-asked
returns-in_err-claim_range-clause-asked c =
    let asked = c.in_err-claim_range.ensures.asked in
    omega arith

pub returns-clause-asked : goal.returns-clause-asked
returns-clause-asked c =
    let header = c.in_ok-claim_range.ensures.asked in
    let asked = c.read_directory.ensures.asked in
    omega arith
