use Rattle.std.proofs.Common.{◌≡◌, ℕ, List, ap, ◌∙◌, sym, subst, refl}
use Rattle.std.specs.List.{AllByRecursion}
use Rattle.px_meaning.specs.declared.Dir.TheVariants.{Main}
use Rattle.px_meaning.specs.Entry.{IsEntry}
use Rattle.px_meaning.specs.Directory.{entries_at}
use Rattle.px_meaning.specs.Says.{record_at}
use Rattle.px_tree.proofs.reading.Named.{main_directory_found}
use Rattle.px_tree.proofs.assembling.Started.{alone_meaning}
use Rattle.px_tree.proofs.read.read_alone.Goals as goal

pub read_record-requires-clause-found : goal.read_record-requires-clause-found
read_record-requires-clause-found c =
    main_directory_found c.args.block.now c.args.order c.main_directory_of-main.result c.args.main
    c.main_directory_of-main.ensures.at c.main_directory_of-main.ensures.iptc c.requires.read.uses

pub read_record-requires-clause-each : goal.read_record-requires-clause-each
read_record-requires-clause-each c =
    subst (λ (a : ℕ). AllByRecursion (IsEntry c.args.block.now c.args.order Main) (entries_at c.args.block.now c.args.order a))
    (sym c.main_directory_of-main.ensures.at) c.requires.each

pub returns-clause-judged : goal.returns-clause-judged
returns-clause-judged c =
    let b = c.args.block.now in
    let o = c.args.order in (
      c.requires.passed,
      alone_meaning b o c.requires.alone _ c.in_ok-iptc.iptc
          (c.main_directory_of-main.ensures.fields ∙ c.requires.read.fields_are refl)
          (c.in_ok-iptc.ensures.ok
          ∙ ap (λ (n : ℕ). record_at b o n) (c.main_directory_of-main.ensures.at ∙ c.requires.read.offset_at)),
    )
