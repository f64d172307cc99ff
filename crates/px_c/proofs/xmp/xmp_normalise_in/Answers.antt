use Rattle.std.proofs.Common.{List, ℕ, inl, inr, ◌∙◌, subst}
use Rattle.px_engine.specs.Slices.{IsPut}
use Rattle.px_engine.specs.declared.normal.Given.TheVariants.{Whole, Needs}
use Rattle.px_c.proofs.xmp.xmp_normalise_in.Goals as goal

pub returns-in-Ok-clause-done : goal.returns-in-Ok-clause-done
returns-in-Ok-clause-done c is = (
  c.in-Ok.form.items,
  c.in-Ok.ensures.form,
  c.in-Ok.ensures.readable,
  subst (λ (z : List ℕ). IsPut (Whole c.give.new.written) z c.args.out.now c.give.new.out) c.as_slice.ensures.value (c.give.ensures.done is),
)

pub returns-in-Ok-clause-short : goal.returns-in-Ok-clause-short
returns-in-Ok-clause-short c is = (
  c.in-Ok.form.items,
  c.in-Ok.ensures.form,
  c.in-Ok.ensures.readable,
  subst (λ (z : List ℕ). IsPut (Needs c.give.new.written) z c.args.out.now c.give.new.out) c.as_slice.ensures.value (c.give.ensures.short is),
)

pub returns-in-Err-Content-clause-refused : goal.returns-in-Err-Content-clause-refused
returns-in-Err-Content-clause-refused c is = (
  _,
  c.refuse.ensures.wrong is,
  (_, rw c.in-Err-Content.field-0-is at c.in-Err-Content.ensures.layer, c.refuse.ensures.stored),
  (rw c.in-Err-Content.field-0-is at c.in-Err-Content.ensures.refused) (c.refuse.ensures.wrong is),
)

pub returns-in-Err-Content-clause-rare : goal.returns-in-Err-Content-clause-rare
returns-in-Err-Content-clause-rare c is =
    (_, c.refuse.ensures.rare is, (_, rw c.in-Err-Content.field-0-is at c.in-Err-Content.ensures.layer, c.refuse.ensures.stored))

pub returns-in-Ok-clause-accepts : goal.returns-in-Ok-clause-accepts
returns-in-Ok-clause-accepts c packet = elim c.give.ensures.known [
  | inl done ↦ inl done
  | inr short ↦ inr (inr short)
]

pub returns-in-Ok-clause-own : goal.returns-in-Ok-clause-own
returns-in-Ok-clause-own c form = elim c.give.ensures.known [
  | inl done ↦ inl done
  | inr short ↦ inr (inr short)
]

pub returns-in-Ok-clause-same : goal.returns-in-Ok-clause-same
returns-in-Ok-clause-same c readable is =
    subst (λ (z : List ℕ). IsPut (Whole c.give.new.written) z c.args.out.now c.give.new.out) (c.as_slice.ensures.value ∙ c.in-Ok.ensures.same readable)
    (c.give.ensures.done is)

pub returns-in-Err-Content-clause-accepts : goal.returns-in-Err-Content-clause-accepts
returns-in-Err-Content-clause-accepts c packet = absurd ((rw c.in-Err-Content.field-0-is at c.in-Err-Content.ensures.accepts) packet)

pub returns-in-Err-Content-clause-own : goal.returns-in-Err-Content-clause-own
returns-in-Err-Content-clause-own c form = absurd ((rw c.in-Err-Content.field-0-is at c.in-Err-Content.ensures.own) form)
