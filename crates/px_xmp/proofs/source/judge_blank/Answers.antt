use Rattle.std.specs.Bool.{⊤}
use Rattle.std.proofs.Common.{◌≡◌, ◌++◌, ℕ, List, Some, ap, sym, subst, ◌∙◌, length, arith, rules}
use denote.Enum.Bare.{same_true}
use Rattle.px_xmp_text.specs.contracts.pieces.TextKind.{the_type}
use Rattle.px_xmp_text.specs.Texts.{text_of, normal_text}
use Rattle.px_xmp_text.specs.declared.pieces.TextKind.{TextKind}
use Rattle.px_xmp.proofs.WhiteLaws.{own_text}
use Rattle.px_xmp.proofs.BlankLaws.{white_short}
use Rattle.px_xmp.proofs.source.judge_blank.Goals as goal
use Rattle.std.proofs.lemmas.Result.{err_from_is_err_and}
use Rattle.std.proofs.lemmas.Option.{same_Some}
use Rattle.std.proofs.lemmas.Bool.{both_ways}
use Rattle.px_xmp.proofs.RefusedLaws.{rare_says, wrong_at}
use Rattle.px_xmp.proofs.AheadLaws.{memory_says}
use Rattle.px_xmp_forms.specs.Forms.{is_white}

pub returns-then-are_plain_spaces-clause-says : goal.returns-then-are_plain_spaces-clause-says
returns-then-are_plain_spaces-clause-says c =
    let x = c.args.text.octets.now in
    let (text, white) = own_text x (sym c.are_plain_spaces.ensures ∙ c.if-are_plain_spaces.true) in
    let is = same_true the_type (search rules) _ _ (sym c.eq.ensures ∙ c.if-eq.true) in
    (x, subst (λ (k : TextKind). text_of k x ≡ Some x) (sym is) text, white)

pub returns-in_err-append_text-clause-refused : goal.returns-in_err-append_text-clause-refused
returns-in_err-append_text-clause-refused c =
    let p = err_from_is_err_and c.from_residual.result c.from_residual.ensures.1 in
    rw (p.1, p.2) (rare_says ⊤ ⊤ c.in_err-append_text.field-0.0 _ c.in_err-append_text.ensures.rare)

pub returns-clause-refused : goal.returns-clause-refused
returns-clause-refused c =
    let (t, says, form) = c.in_ok-append_text.ensures.items in
    wrong_at ⊤ _ _ _ _ c.at.ensures (t, says, sym (c.is_blank.ensures t (c.as_slice.ensures.value ∙ form ∙ ap (λ (z : List ℕ). z ++ normal_text t) c.list-form.ensures.items)) ∙ c.if-is_blank.false)

-- ---- white space

pub returns-in_err-append_text-clause-accepts : goal.returns-in_err-append_text-clause-accepts
returns-in_err-append_text-clause-accepts c (few, t, says, white) =
    let p = err_from_is_err_and c.from_residual.result c.from_residual.ensures.1 in
    rw (p.1, p.2) (memory_says ⊤ ⊤ c.in_err-append_text.field-0.0 (c.in_err-append_text.ensures.accepts (
      t,
      says,
      few,
      omega (arith, white_short c.only_references_are_read.ensures c.args.text.kind c.args.text.octets.now t says white, few, ap length c.list-form.ensures.items),
    )))

pub returns-clause-accepts : goal.returns-clause-accepts
returns-clause-accepts c (few, t, says, white) =
    let (u, is, form) = c.in_ok-append_text.ensures.items in
    let same : t ≡ u = same_Some t u (sym says ∙ is) in
    let blank = c.is_blank.ensures u (c.as_slice.ensures.value ∙ form ∙ ap (λ (z : List ℕ). z ++ normal_text u) c.list-form.ensures.items) in
    absurd (both_ways c.is_blank.result c.if-is_blank.false (blank ∙ ap is_white (sym same) ∙ white))
