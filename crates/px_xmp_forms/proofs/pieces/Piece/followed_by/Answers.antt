use Rattle.std.proofs.Common.{◌≡◌, ◌++◌, ℕ, List, length, drop, sym, ap, subst, ◌∙◌, arith, length-append}
use Rattle.std.proofs.lemmas.List.{drop-append-le}
use Rattle.px_xmp_forms.specs.Forms.{IsForm}
use Rattle.px_xmp_forms.proofs.FormLaws.{form_append}
use Rattle.px_xmp_forms.proofs.pieces.Piece.followed_by.Goals as goal

pub invariant_of-result : goal.invariant_of-result
invariant_of-result c =
    let P : List ℕ → Type 0 = λ x. IsForm x in
    let other = subst P c.octets-2.ensures.value c.octets-2.ensures.form in (
      c.in_ok-octets.ensures.within,
      subst P (sym c.in_ok-octets.ensures.value) (form_append _ _ c.octets-then-not-stays.ensures.form other),
    )

pub invariant_of-result-2 : goal.invariant_of-result-2
invariant_of-result-2 c =
    let P : List ℕ → Type 0 = λ x. IsForm x in
    let start = c.self.inside.start in
    let old = c.self.inside.octets.items in
    let more = c.octets-3.result.now in
    let all : drop start c.extend_from_slice.new.list.items ≡ drop start old ++ more =
    ap (drop start) c.in_ok-extend_from_slice.ensures.items ∙ drop-append-le start old more c.self.invariant.0 in (
      omega (arith, c.self.invariant.0, ap length c.in_ok-extend_from_slice.ensures.items, length-append {A = ℕ}),
      subst P (sym all) (form_append _ _ c.self.invariant.1 c.octets-3.ensures.form),
    )
