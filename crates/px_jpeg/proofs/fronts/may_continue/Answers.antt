use Rattle.std.proofs.Common.{◌≡◌, ◌≤◌, ◌+◌, ◌-◌, ◌*◌, ◌==◌, ◌∙◌, ℕ, Bool, List, length, drop, false, refl, sym, ap, ap₂}
use Rattle.std.proofs.Common.{arith, eqb-true, length-drop}
use Rattle.std.proofs.lemmas.Bool.{eqb-false}
use Rattle.px_jpeg.specs.Reading.{count}
use Rattle.px_jpeg.specs.calls.Later.{MayBeLater}
use Rattle.px_jpeg.proofs.ContinueLaws.{empty_continues, other_stops, code_other, code_short, code_later, later_coded, cut_short}
use Rattle.px_jpeg.proofs.fronts.may_continue.Goals as goal

pub returns-then-is_empty : goal.returns-then-is_empty
returns-then-is_empty c = (
  λ t. empty_continues c.args.octets.now c.rest-body.result.now c.marks-n.result c.marks-n.ensures.value c.rest-body.ensures
      (eqb-true (length c.rest-body.result.now) 0 (sym c.is_empty.ensures ∙ c.if-is_empty.true)),
  λ m. refl,
)

not_empty : (n : ℕ) (b : Bool) → b ≡ (n == 0) → b ≡ false → 1 ≤ n
not_empty n b e f = let h = eqb-false n 0 (sym e ∙ f) in omega (arith, h)

pub returns-then-n-eq0 : goal.returns-then-n-eq0
returns-then-n-eq0 c =
    let l = not_empty (length c.rest-body.result.now) c.is_empty.result c.is_empty.ensures c.if-is_empty.false in (
      λ t. absurd (cc),
      λ m. absurd (other_stops c.args.octets.now (sym c.if-n-eq0.true ∙ c.marks-n.ensures.value)
          (omega (arith, ap length c.rest-body.ensures, length-drop c.marks-n.result c.args.octets.now)) m),
    )

pub returns-then-body : goal.returns-then-body
returns-then-body c =
    let l = not_empty (length c.rest-body.result.now) c.is_empty.result c.is_empty.ensures c.if-is_empty.false in (
      λ t. absurd (cc),
      λ m. absurd (code_other c.args.octets.now c.rest-body.result.now c.marks-n.result c.marks-n.ensures.value c.rest-body.ensures
          (omega (arith, c.if-n-eq0.false)) l c.if-body.true m),
    )

pub returns-then-body-lt3 : goal.returns-then-body-lt3
returns-then-body-lt3 c =
    let l = not_empty (length c.rest-body.result.now) c.is_empty.result c.is_empty.ensures c.if-is_empty.false in (
      λ t. code_short c.args.octets.now c.rest-body.result.now c.marks-n.result c.marks-n.ensures.value c.rest-body.ensures
          (omega (arith, c.if-n-eq0.false)) l c.if-body.false c.if-body-lt3.true,
      λ m. refl,
    )

pub returns-then-count-lt2 : goal.returns-then-count-lt2
returns-then-count-lt2 c = (
  λ t. absurd (cc),
  λ m.
      let p : 256 * c.from.result + c.from-2.result ≡ count c.rest-body.result.now = omega (arith, c.from.ensures, c.from-2.ensures) in
      let k = later_coded c.args.octets.now c.rest-body.result.now c.marks-n.result c.marks-n.ensures.value c.rest-body.ensures
      (omega (arith, c.if-n-eq0.false)) c.if-body-lt3.false m in
      absurd (omega (arith, p, k.0, c.if-count-lt2.true)),
)

pub may_be_later-requires : goal.may_be_later-requires
may_be_later-requires c =
    let p : 256 * c.from.result + c.from-2.result ≡ count c.rest-body.result.now = omega (arith, c.from.ensures, c.from-2.ensures) in
    let short = cut_short c.args.octets.now c.rest-body.result.now c.marks-n.result c.marks-n.ensures.value c.rest-body.ensures
    (omega (arith, c.if-n-eq0.false)) c.if-body.false c.if-body-lt3.false (omega (arith, p, c.if-count-lt2.false)) c.requires in
    omega (arith, p, short, ap length c.rest.ensures, length-drop 3 c.rest-body.result.now, c.if-body-lt3.false)

pub returns : goal.returns
returns c =
    let x = c.args.octets.now in
    let y = c.rest-body.result.now in
    let p : 256 * c.from.result + c.from-2.result ≡ count y = omega (arith, c.from.ensures, c.from-2.ensures) in
    let same : MayBeLater (256 * c.from.result + c.from-2.result - 2) c.rest.result.now ≡ MayBeLater (count y - 2) (drop 3 y) =
    ap₂ (λ (n : ℕ) (z : List ℕ). MayBeLater (n - 2) z) p c.rest.ensures in (
      λ t. code_later x y c.marks-n.result c.marks-n.ensures.value c.rest-body.ensures (omega (arith, c.if-n-eq0.false)) c.if-body.false
          c.if-body-lt3.false (omega (arith, p, c.if-count-lt2.false)) (rw (← same) (c.may_be_later.ensures.0 t)),
      λ m. c.may_be_later.ensures.1 (rw same (later_coded x y c.marks-n.result c.marks-n.ensures.value c.rest-body.ensures
          (omega (arith, c.if-n-eq0.false)) c.if-body-lt3.false m).1),
    )
