use Rattle.std.proofs.lemmas.Result.{on_ok_weaker}
use Rattle.px_xmp_forms.proofs.FormLaws.{language_filled}
use Rattle.px_xmp_forms.proofs.elements.append_attribute.Goals as goal

pub returns-clause-items : goal.returns-clause-items
returns-clause-items c =
    on_ok_weaker c.append-3.result (λ e. language_filled c.args.out.now.items c.append.new.out.items c.append-2.new.out.items c.append-3.new.out.items
    c.args.language.now c.requires c.in_ok-append.ensures.items c.in_ok-append-2.ensures.items e) c.append-3.ensures.items
