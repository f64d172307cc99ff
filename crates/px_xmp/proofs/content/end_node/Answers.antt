use Rattle.std.proofs.Common.{refl}
use Rattle.std.proofs.lemmas.Result.{on_ok_weaker}
use Rattle.px_xmp_forms.specs.Entries.{row}
use Rattle.px_xmp.proofs.ContentLaws.{node_closed, node_joined}
use Rattle.px_xmp.proofs.content.end_node.Goals as goal

pub returns-clause-value : goal.returns-clause-value
returns-clause-value c s has =
    let (after, now, joins) = c.in_ok-join_node.ensures.value s has in
    on_ok_weaker c.end_node.result (λ closed es o os e.
    let (fs, are, opened, same) = node_joined c.args.node s after es o os e joins in
    (row fs, (fs, are, refl), node_closed after es fs o os s.properties c.end_node.new.self opened same closed)) (c.end_node.ensures.value after now)

pub returns-clause-accepts : goal.returns-clause-accepts
returns-clause-accepts c s has fits = c.end_node.ensures.accepts
