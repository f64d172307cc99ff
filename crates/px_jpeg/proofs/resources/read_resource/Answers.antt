use Rattle.std.proofs.Common.{◌≡◌, ◌+◌, ◌*◌, ◌%◌, ℕ, List, take, drop, slice_index, sym, ap, ◌∙◌, arith}
use Rattle.std.proofs.lemmas.Bool.{false_from_ne_true, both_ways}
use Rattle.px_jpeg.specs.declared.resources.Resource.{Resource}
use Rattle.px_jpeg.specs.ResourceReading.{is_signature, number4, place, count_at, is_resource, resource}
use Rattle.px_jpeg.proofs.ResourceLaws.{resource_holds, holds_resource}
use Rattle.px_jpeg.proofs.resources.read_resource.Goals as goal

pub returns-then-octets-lt12 : goal.returns-then-octets-lt12
returns-then-octets-lt12 c =
    let x = c.args.octets.now in
    false_from_ne_true (is_resource x) (λ h. omega (arith, (resource_holds x h).twelve, c.if-octets-lt12.true))

pub returns-then-not-is_signature : goal.returns-then-not-is_signature
returns-then-not-is_signature c =
    let x = c.args.octets.now in
    false_from_ne_true (is_resource x) (λ h. both_ways (is_signature (take 4 x))
    (ap is_signature (sym c.split_at.ensures.front) ∙ sym c.is_signature.ensures ∙ c.if-not-is_signature.true) (resource_holds x h).signed)

pub returns-then-octets-place : goal.returns-then-octets-place
returns-then-octets-place c =
    let x = c.args.octets.now in
    let e : c.from-name.result ≡ slice_index x 6 = c.from-name.ensures in
    let k : 6 + (c.from-name.result + 1) + (c.from-name.result + 1) % 2 ≡ place x = ap (λ (n : ℕ). 6 + (n + 1) + (n + 1) % 2) e in
    false_from_ne_true (is_resource x) (λ h. omega (arith, (resource_holds x h).named, k, c.if-octets-place.true))

pub returns-then-octets-place-2 : goal.returns-then-octets-place-2
returns-then-octets-place-2 c =
    let x = c.args.octets.now in
    let e : c.from-name.result ≡ slice_index x 6 = c.from-name.ensures in
    let k : 6 + (c.from-name.result + 1) + (c.from-name.result + 1) % 2 ≡ place x = ap (λ (n : ℕ). 6 + (n + 1) + (n + 1) % 2) e in
    let n : c.number4-size.result ≡ count_at x = c.number4-size.ensures.value ∙ ap number4 (c.rest.ensures ∙ ap (λ (j : ℕ). drop j x) k) in
    false_from_ne_true (is_resource x) (λ h. omega (arith, (resource_holds x h).whole, k, n, c.if-octets-place-2.true))

value_is : (at : ℕ) (x : List ℕ) (a b n s : ℕ) → a ≡ slice_index x 4 → b ≡ slice_index x 5 → n ≡ place x → s ≡ count_at x
    → ◌≡◌ {A = Resource} (record { number = 256 * a + b; start = at + n + 4; size = s }) (resource at x)
unfolding resource
value_is at x a b n s p q e h =
    let m : 256 * a + b ≡ 256 * slice_index x 4 + slice_index x 5 = omega (arith, p, q) in
    λ i. record { number = m i; start = at + e i + 4; size = h i }

pub returns : goal.returns
returns c =
    let x = c.args.octets.now in
    let e : c.from-name.result ≡ slice_index x 6 = c.from-name.ensures in
    let k : 6 + (c.from-name.result + 1) + (c.from-name.result + 1) % 2 ≡ place x = ap (λ (n : ℕ). 6 + (n + 1) + (n + 1) % 2) e in
    let n : c.number4-size.result ≡ count_at x = c.number4-size.ensures.value ∙ ap number4
    (c.rest.ensures ∙ ap (λ (j : ℕ). drop j x) k) in (
      holds_resource x (record {
        twelve = omega (arith, c.if-octets-lt12.false);
        signed = ap is_signature (sym c.split_at.ensures.front) ∙ sym c.is_signature.ensures ∙ c.if-not-is_signature.false;
        named = omega (arith, k, c.if-octets-place.false);
        whole = omega (arith, k, n, c.if-octets-place.false, c.if-octets-place-2.false);
      }),
      value_is c.args.at x c.from.result c.from-2.result (6 + (c.from-name.result + 1) + (c.from-name.result + 1) % 2) c.number4-size.result
          c.from.ensures c.from-2.ensures k n,
    )
