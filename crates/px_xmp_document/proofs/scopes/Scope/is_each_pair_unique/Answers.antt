use Rattle.std.proofs.Common.{List, ap, ◌∙◌, map}
use Rattle.px_xmp_marks.specs.Reading.{attribute_view}
use Rattle.px_xmp_document.specs.declared.stored.Key.{Key}
use Rattle.px_xmp_document.specs.calls.Keys.{key_view, are_keys_unique}
use Rattle.px_xmp_document.proofs.KeyLaws.{unique_keys}
use Rattle.px_xmp_document.proofs.scopes.Scope.is_each_pair_unique.Goals as goal

pub returns : goal.returns
returns c =
    c.are_keys_unique.ensures
    ∙ (ap (λ (z : List Key). are_keys_unique (map key_view z)) c.split_at.ensures.front
    ∙ (ap are_keys_unique c.store_keys.ensures.stored ∙ unique_keys c.args.self.now (map attribute_view c.args.attributes.now)))
