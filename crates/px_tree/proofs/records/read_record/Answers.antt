use Rattle.std.proofs.Common.{◌≡◌, Option, Some, None, sym, subst}
use Rattle.std.specs.Prelude.{IfOk}
use Rattle.px_tree.specs.declared.links.Found.{Found}
use Rattle.px_meaning.specs.declared.Dir.TheVariants.{Main}
use Rattle.px_meaning.specs.Roles.{record_tag}
use Rattle.px_meaning.specs.Iim.{Iim}
use Rattle.px_tree.specs.calls.Parts.{Finds, entry_here}
use Rattle.px_tree.proofs.lists.Listed.{has_value}
use Rattle.px_tree.proofs.assembling.Assembled.{record_is}
use Rattle.px_tree.proofs.records.read_record.Goals as goal

pub record_found-requires : goal.record_found-requires
record_found-requires c =
    let b = c.args.block.now in
    let o = c.args.order in
    let a = c.args.main.now.at in
    has_value b o a c.requires.bounded Main record_tag c.in-Some.found c.requires.each
    (subst (λ (x : Option Found). Finds b o a record_tag x) c.in-Some.is c.requires.found)

pub returns-in-Some-clause-ok : goal.returns-in-Some-clause-ok
returns-in-Some-clause-ok c =
    let b = c.args.block.now in
    let o = c.args.order in
    let a = c.args.main.now.at in
    let found = subst (λ (x : Option Found). Finds b o a record_tag x) c.in-Some.is c.requires.found in
    subst (λ (x : Option Iim). IfOk c.record_found.result (λ r. r ≡ x)) (sym
    (record_is b o a (Some (entry_here b o c.in-Some.found)) found.is)) c.record_found.ensures.ok

pub returns-in-None-clause-ok : goal.returns-in-None-clause-ok
returns-in-None-clause-ok c =
    let b = c.args.block.now in
    let o = c.args.order in
    let a = c.args.main.now.at in
    sym (record_is b o a None (subst (λ (x : Option Found). Finds b o a record_tag x) c.in-None.is c.requires.found))
