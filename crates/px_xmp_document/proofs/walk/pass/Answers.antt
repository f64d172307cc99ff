use Rattle.px_xmp_document.proofs.walk.pass.Goals as goal

pub returns-in-Ok-clause-passed : goal.returns-in-Ok-clause-passed
returns-in-Ok-clause-passed c = c.in-Ok.ensures.passed c.args.scope.now
