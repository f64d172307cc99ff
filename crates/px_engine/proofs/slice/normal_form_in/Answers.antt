use Rattle.std.proofs.Common.{arith}
use Rattle.px_engine.specs.calls.Seen.{said_view}
use Rattle.px_engine.proofs.Ended.{form_formed, form_unwritten}
use Rattle.px_engine.proofs.Asked.{block_within}
use Rattle.px_engine.proofs.slice.normal_form_in.Goals as goal

pub returns-clause-formed : goal.returns-clause-formed
returns-clause-formed c =
    form_formed _ c.form_of.result c.args.file.now (said_view c.in_ok-meaning.meaning) c.in_ok-meaning.ensures.meaning c.form_of.ensures.formed

pub returns-clause-unwritten : goal.returns-clause-unwritten
returns-clause-unwritten c =
    form_unwritten c.form_of.result c.args.file.now (said_view c.in_ok-meaning.meaning) _ c.in_ok-meaning.ensures.meaning c.form_of.ensures.unformed

pub returns-clause-asked : goal.returns-clause-asked
returns-clause-asked c =
    let form = c.in_ok-meaning.ensures.meaning.bounded in
    omega (arith, form, block_within c.args.file.now, c.in_ok-meaning.ensures.asked, c.form_of.ensures.asked)
