use Rattle.std.proofs.Common.{sym, subst}
use Rattle.std.specs.Prelude.{IfSome}
use Rattle.px_layout.specs.calls.Forms.{meaning_in}
use Rattle.px_layout.specs.lemmas.EntryLaws.{Good, good_items}
use Rattle.px_layout.proofs.put_form.put_entries.Goals as goal

pub put_dir-requires-clause-good : goal.put_dir-requires-clause-good
put_dir-requires-clause-good g c =
    subst (λ o. IfSome o (Good c.args.dir)) (sym c.in-Some.ensures) (good_items (meaning_in c.args.form.now) c.requires.form.0 c.args.dir)
