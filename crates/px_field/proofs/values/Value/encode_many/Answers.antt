use Rattle.std.proofs.Common.{◌≡◌, ◌≤◌, ◌+◌, ◌*◌, ℕ, List, length, take, drop, flat_map, refl, sym, ap, subst, ◌∙◌, arith, rules}
use Rattle.std.proofs.lemmas.List.{take_at}
use Rattle.px_bytes.specs.Parts.{pieces}
use Rattle.px_field.specs.declared.turning.Width.{Width}
use Rattle.px_field.specs.Forms.{size}
use Rattle.px_field.specs.Values.{Value, encode, form_in, count_in}
use Rattle.px_field.specs.calls.Views.{shown}
use Rattle.px_field.specs.calls.Turning.{width_of, read_by, turned}
use Rattle.px_field.proofs.ViewLemmas.{length_shown}
use Rattle.px_field.proofs.TurnLaws.{part_shown, read_size}
use Rattle.px_field.proofs.values.Value.encode_many.Goals as goal

pub slice_from-raw-requires-clause-inside : goal.slice_from-raw-requires-clause-inside
slice_from-raw-requires-clause-inside c =
    let v = c.self.inside in
    let seen : length (shown v.widened v.order v.form v.raw.now).elements ≡ length c.args.self.now.elements =
    ap (λ (w : Value). length w.elements) c.self.view_is in
    omega (arith, length_shown v.widened v.order v.form v.raw.now, seen, c.how_many-count.ensures.count, c.count.ensures.count, c.requires)

pub returns-clause-front : goal.returns-clause-front
returns-clause-front c =
    let v = c.self.inside in
    let o = c.args.order in
    let i = c.args.i in
    let n = c.how_many-count.result in
    let f = v.form in
    let seen : length (shown v.widened v.order f v.raw.now).elements ≡ length c.args.self.now.elements =
    ap (λ (w : Value). length w.elements) c.self.view_is in
    let inside : i + n ≤ count_in f v.raw.now =
    omega (arith, length_shown v.widened v.order f v.raw.now, seen, c.how_many-count.ensures.count, c.count.ensures.count, c.requires)
    in
    let long : length c.turn.new.to ≡ n * c.width-width.result = search rules in
    let fits : n * size f ≤ length (drop (i * size f) v.raw.now) =
    subst (λ (x : List ℕ). n * size f ≤ length x) c.slice_from-raw.ensures.value c.slice_from-raw.ensures.space in
    take_at c.turn.new.to _ (n * size (form_in c.args.self.now.kind)) (long ∙ ap (λ (m : ℕ). n * m) c.width-width.ensures)
    ∙ c.turn.ensures
    ∙ ap (λ (k : Width). flat_map (turned k v.order o) (pieces n (read_by k) c.slice_from-raw.result.now)) c.of.ensures
    ∙ ap (λ (m : ℕ). flat_map (turned (width_of v.widened f) v.order o) (pieces n m c.slice_from-raw.result.now))
    (read_size v.widened f c.self.invariant.width)
    ∙ ap (λ (x : List ℕ). flat_map (turned (width_of v.widened f) v.order o) (pieces n (size f) x)) c.slice_from-raw.ensures.value
    ∙ sym (part_shown v.widened v.order o f v.raw.now n i (i * size f) c.self.invariant.width c.self.invariant.bytes refl inside fits)
    ∙ ap (λ (u : Value). flat_map (encode o) (take n (drop i u.elements))) c.self.view_is
