use Rattle.std.proofs.Common.{◌≡◌, ◌∙◌, ap, sym, Some, None, is_some, true, false, true≢false}
use Rattle.std.proofs.lemmas.Result.{IfOk-weaker}
use Rattle.clap.specs.Words.{first_of, found_of, rows_of}
use Rattle.clap.proofs.WalkLemmas.{first_value-rows}
use Rattle.px_words.proofs.words.word_at.Goals as goal

pub unreachable-requires : goal.unreachable-requires
unreachable-requires c =
    let none : None ≡ first_of c.args.id.now (rows_of (found_of c.args.inner.now)) =
    c.in_default.ensures ∙ first_value-rows (found_of c.args.inner.now) c.args.id.now in
    let bad : false ≡ true = ap is_some none ∙ c.requires in
    true≢false (sym bad)

pub returns-clause-word : goal.returns-clause-word
returns-clause-word c =
    let found : Some c.in-Some.word.now ≡ first_of c.args.id.now (rows_of (found_of c.args.inner.now)) =
    c.in-Some.ensures ∙ first_value-rows (found_of c.args.inner.now) c.args.id.now in
    IfOk-weaker c.of.result _ _ (λ t same. sym found ∙ ap Some (sym same)) c.of.ensures.text
