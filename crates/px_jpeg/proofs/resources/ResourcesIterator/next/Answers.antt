use Rattle.std.proofs.Common.{◌≡◌, ◌∙◌, ◌+◌, ◌%◌, ◌∷◌, [], ℕ, length, drop, min, sym, ap, arith}
use Rattle.px_jpeg.specs.declared.resources.Resource.{Resource}
use Rattle.px_jpeg.specs.ResourceReading.{is_resource, resources_of}
use Rattle.px_jpeg.proofs.ResourceLaws.{resources_none, resource_next}
use Rattle.px_jpeg.proofs.resources.ResourcesIterator.next.Goals as goal

pub returns-in_default-clause-steps : goal.returns-in_default-clause-steps
returns-in_default-clause-steps c =
    let at = c.self.inside.at in
    let e : c.args.self.now ≡ [] =
    sym c.self.view_is ∙ resources_none at (drop at c.self.inside.bytes.now) (ap is_resource (sym c.rest.ensures) ∙ c.in_default.ensures) in
    (e, e)

pub after-self-inside-requires-clause-inside : goal.after-self-inside-requires-clause-inside
after-self-inside-requires-clause-inside c =
    let n = resource_next c.self.inside.bytes.now c.self.inside.at c.rest.result.now c.in-Some.found c.rest.ensures c.in-Some.ensures.0
    c.in-Some.ensures.1 c.self.invariant in
    omega (arith, n.0)

pub returns-clause-steps : goal.returns-clause-steps
returns-clause-steps c =
    let b = c.self.inside.bytes.now in
    let r : Resource = c.in-Some.found in
    let n = resource_next b c.self.inside.at c.rest.result.now r c.rest.ensures c.in-Some.ensures.0 c.in-Some.ensures.1 c.self.invariant in
    let m : c.after-self-inside.result ≡ min (length b) (r.start + r.size + r.size % 2) = c.after-self-inside.ensures in
    sym c.self.view_is ∙ n.1 ∙ ap (λ (k : ℕ). r ∷ resources_of k (drop k b)) (sym m)

pub returns-clause-goes : goal.returns-clause-goes
returns-clause-goes c =
    let e = ap length (returns-clause-steps c) in record {
      on = λ f. (tt, tt, omega arith);
      keeps = tt;
      rests = λ f. tt;
    }
