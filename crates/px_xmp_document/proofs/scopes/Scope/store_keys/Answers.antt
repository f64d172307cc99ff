use Rattle.std.proofs.Common.{◌∙◌, arith, map}
use Rattle.std.proofs.lemmas.List.{length-set}
use Rattle.px_xmp_marks.specs.Reading.{attribute_view}
use Rattle.px_xmp_document.specs.calls.Keys.{keys_of}
use Rattle.px_xmp_document.proofs.KeyLaws.{key_next}
use Rattle.px_xmp_document.proofs.scopes.Scope.store_keys.Goals as goal

pub loop-n-preserved : goal.loop-n-preserved
loop-n-preserved c =
    let keys = c.loop-n.keys in
    let n = c.loop-n.n in
    let size = c.loop-n.invariant.0 in
    let all = c.args.attributes.now in (
      length-set keys n c.key.result ∙ size,
      key_next c.args.self.now n keys c.key.result all _ (keys_of c.args.self.now (map attribute_view all))
          (omega (arith, c.loop-n-test.true, c.requires, size)) c.loop-n-test.true c.key.ensures c.loop-n.invariant.1,
    )
