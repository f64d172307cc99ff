use Rattle.std.proofs.Common.{◌≡◌, ◌∷◌, [], refl, length, sym, ap, ◌∙◌, inl, inr, eqb-true}
use Rattle.std.proofs.lemmas.Bool.{eqb-false}
use Rattle.px_xmp_forms.proofs.LanguageLaws.{last_part, more_parts, parts_begin}
use Rattle.px_xmp_forms.proofs.languages.are_parts.Goals as goal

pub returns-then-is_empty : goal.returns-then-is_empty
returns-then-is_empty c =
    let (part, is, joined) = c.in-Some.ensures.part in
    let whole = c.loop-after.invariant.whole (part ∷ [])
    (last_part c.loop-after.is_first part c.in-Some.after.now c.loop-after.rest.now is joined
    (eqb-true (length c.in-Some.after.now) 0 (sym c.is_empty.ensures ∙ c.if-is_empty.true))) in
    (λ e. whole, λ is. refl)

pub returns-in_default-after_hyphen : goal.returns-in_default-after_hyphen
returns-in_default-after_hyphen c = (
  λ e. absurd (cc),
  λ is.
      let (ps, parts) = c.loop-after.invariant.left is in
      let b = parts_begin c.loop-after.is_first ps c.loop-after.rest.now parts in
      let after : c.in-Some.after.now ≡ b.rest = c.in-Some.ensures.longest b.part b.rest b.is b.ends b.joined in
      let some = eqb-false (length c.in-Some.after.now) 0 (sym c.is_empty.ensures ∙ c.if-is_empty.false) in
      elim b.ends [
        | inl none ↦ absurd (some (ap length (after ∙ none)))
        | inr (rest, hyphen) ↦ absurd (c.in_default-after_hyphen.ensures.found rest (after ∙ hyphen))
      ],
)

pub loop-after-preserved : goal.loop-after-preserved
loop-after-preserved c =
    record {
      whole = λ ps parts.
          let (part, is, joined) = c.in-Some.ensures.part in
          c.loop-after.invariant.whole (part ∷ ps)
          (more_parts c.loop-after.is_first part c.in-Some.after.now c.in-Some-after_hyphen.other.now c.loop-after.rest.now ps is joined
          c.in-Some-after_hyphen.ensures.hyphen parts);
      left = λ is.
          let (ps, parts) = c.loop-after.invariant.left is in
          let b = parts_begin c.loop-after.is_first ps c.loop-after.rest.now parts in
          let after : c.in-Some.after.now ≡ b.rest = c.in-Some.ensures.longest b.part b.rest b.is b.ends b.joined in
          let next = b.more 45 c.in-Some-after_hyphen.other.now (sym after ∙ c.in-Some-after_hyphen.ensures.hyphen) in (next.1, next.2);
    }

pub returns : goal.returns
returns c = (
  λ e. absurd (cc),
  λ is.
      let (ps, parts) = c.loop-after.invariant.left is in
      let b = parts_begin c.loop-after.is_first ps c.loop-after.rest.now parts in
      absurd (c.in_default.ensures.longest b.part b.rest b.is b.ends b.joined),
)
