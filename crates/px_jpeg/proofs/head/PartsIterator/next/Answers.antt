use Rattle.std.proofs.Common.{◌≡◌, ◌∙◌, ◌+◌, Bool, List, [], ◌∷◌, length, drop, sym, ap, arith, true}
use Rattle.std.proofs.Common.{ℕ, inl, inr}
use Rattle.std.proofs.lemmas.Bool.{cond-true, cond-false, cases_Bool}
use Rattle.px_jpeg.specs.declared.parts.Part.{Part}
use Rattle.px_jpeg.specs.Head.{is_last}
use Rattle.px_jpeg.specs.Reading.{front_left, is_part, part, left_of}
use Rattle.px_jpeg.proofs.HeadLaws.{fault_no_part}
use Rattle.px_jpeg.proofs.Walking.{part_inside}
use Rattle.px_jpeg.proofs.FirstParts.{front_none, last_front, more_front}
use Rattle.px_jpeg.proofs.head.PartsIterator.next.Goals as goal

pub returns-in_default-clause-steps : goal.returns-in_default-clause-steps
returns-in_default-clause-steps c =
    let b = c.self.inside.bytes.now in
    let at = c.self.inside.at in
    let e : c.args.self.now ≡ [] =
    sym c.self.view_is ∙ cond-false c.self.inside.is_over [] (front_left at (drop at b)) c.if-self.false
    ∙ ap (front_left at) (sym c.rest.ensures)
    ∙ front_none at c.rest.result.now (fault_no_part c.in_default.field-0 c.rest.result.now c.in_default.ensures) in
    (e, e)

pub overflow_add-self : goal.overflow_add-self
overflow_add-self c =
    let i = c.self.invariant c.if-self.false in
    let l = part_inside c.self.inside.bytes.now c.self.inside.at c.rest.result.now c.in-Ok.part c.rest.ensures
    c.in-Ok.ensures.0 c.in-Ok.ensures.1 i in
    record { fits = omega arith }

pub invariant_of-self : goal.invariant_of-self
invariant_of-self c e =
    part_inside c.self.inside.bytes.now c.self.inside.at c.rest.result.now c.in-Ok.part c.rest.ensures
    c.in-Ok.ensures.0 c.in-Ok.ensures.1 (c.self.invariant c.if-self.false)

step : (b : List ℕ) (at : ℕ) (y : List ℕ) (q : Part) (l : Bool) → y ≡ drop at b → is_part y ≡ true → q ≡ part at y → l ≡ is_last q.code
    → front_left at (drop at b) ≡ q ∷ left_of l (q.start + q.size) b
step b at y q l e h v k = elim (cases_Bool (is_last q.code)) [
  | inl t ↦
      last_front b at y q e h v t
      ∙ ap (λ (r : List Part). q ∷ r) (sym (cond-true l [] (front_left (q.start + q.size) (drop (q.start + q.size) b)) (k ∙ t)))
  | inr f ↦
      more_front b at y q e h v f
      ∙ ap (λ (r : List Part). q ∷ r) (sym (cond-false l [] (front_left (q.start + q.size) (drop (q.start + q.size) b)) (k ∙ f)))
]

pub returns-clause-steps : goal.returns-clause-steps
returns-clause-steps c =
    let b = c.self.inside.bytes.now in
    let at = c.self.inside.at in
    sym c.self.view_is ∙ cond-false c.self.inside.is_over [] (front_left at (drop at b)) c.if-self.false
    ∙ step b at c.rest.result.now c.in-Ok.part c.is_last-self-inside.result c.rest.ensures c.in-Ok.ensures.0 c.in-Ok.ensures.1
    c.is_last-self-inside.ensures

pub returns-clause-goes : goal.returns-clause-goes
returns-clause-goes c =
    let e = ap length (returns-clause-steps c) in record {
      on = λ f. (tt, tt, omega arith);
      keeps = tt;
      rests = λ f. tt;
    }
