use Rattle.px_xmp_forms.proofs.FormLaws.{text_more}
use Rattle.px_xmp_forms.proofs.pieces.TextForm.followed_by.Goals as goal

pub invariant_of-result : goal.invariant_of-result
invariant_of-result c =
    let (t, read, e) = c.in_ok-append_text.ensures.items in text_more _ _ t c.self.invariant e
