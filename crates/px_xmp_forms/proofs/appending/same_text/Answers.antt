use Rattle.std.proofs.Common.{◌≡◌, ◌∙◌, sym, ap, refl, Bool, true, false, nat_eq, List, ℕ, Option, Some, None, is_some}
use Rattle.std.specs.Cmp.Lexicographic.{pointwise, same_text, other_text}
use Rattle.px_xmp_text.specs.Laws.{NormalIsInjective}
use Rattle.px_xmp_text.specs.Texts.{text_of, normal_text}
use Rattle.px_xmp_text.specs.declared.pieces.TextKind.TheVariants.{AttributeValue}
use Rattle.px_xmp_forms.specs.Forms.{IsSameText}
use Rattle.px_xmp_forms.proofs.appending.same_text.Goals as goal

-- values have the texts s and t, whose normal forms are compared
told : NormalIsInjective → (a b s t : List ℕ) (same : Bool) → text_of AttributeValue a ≡ Some s → text_of AttributeValue b ≡ Some t
    → same ≡ pointwise nat_eq (normal_text s) (normal_text t) → IsSameText a b same
told once a b s t true f g e = f ∙ ap Some ((once s t).0 (same_text (normal_text s) (normal_text t) e)) ∙ sym g
told once a b s t false f g e = λ same.
    other_text (normal_text s) (normal_text t) e ((once s t).1 (inside (sym f ∙ same ∙ g)))
  where
    inside : {x y : List ℕ} → Some x ≡ Some y → x ≡ y
    inside e = cc

some_is : (o : Option (List ℕ)) → is_some o ≡ true → (t : List ℕ) × (o ≡ Some t)
some_is None e = absurd (cc)
some_is (Some t) e = (t, refl)

pub returns-clause-value : goal.returns-clause-value
returns-clause-value c =
    let one : is_some (text_of AttributeValue c.args.a.now) ≡ true = sym c.has_text.ensures ∙ c.if-not-has_text.false in
    let two : is_some (text_of AttributeValue c.args.b.now) ≡ true = sym c.has_text-2.ensures ∙ c.if-not-has_text-2.false in
    let (s, f) = some_is (text_of AttributeValue c.args.a.now) one in
    let (t, g) = some_is (text_of AttributeValue c.args.b.now) two in
    let first = c.as_slice.ensures.value ∙ c.in_ok-first.ensures.value s f in
    let second = c.as_slice-2.ensures.value ∙ c.in_ok-second.ensures.value t g in
    told c.normal_is_injective.ensures c.args.a.now c.args.b.now s t c.eq-2.result f g
    (c.eq-2.ensures ∙ ap (λ (z : List ℕ). pointwise nat_eq z c.as_slice-2.result.now) first ∙ ap (λ (z : List ℕ). pointwise nat_eq (normal_text s) z) second)
