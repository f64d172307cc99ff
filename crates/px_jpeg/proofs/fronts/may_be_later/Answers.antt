use Rattle.std.proofs.Common.{◌≡◌, ◌∙◌, drop, refl, sym, ap}
use Rattle.std.proofs.lemmas.Bool.{both_ways, not_from_false, not-true}
use Rattle.px_jpeg.specs.Pieces.{is_header}
use Rattle.px_jpeg.proofs.LaterLaws.{later_none, later_few, few_later, marked_later, later_short, later_long, long_later}
use Rattle.px_jpeg.proofs.fronts.may_be_later.Goals as goal

pub returns-then-size-lt6 : goal.returns-then-size-lt6
returns-then-size-lt6 c = (λ t. absurd (cc), λ m. absurd (later_none c.args.size c.args.octets.now c.if-size-lt6.true m))

pub returns-then-octets-lt6 : goal.returns-then-octets-lt6
returns-then-octets-lt6 c = (
  λ t. later_few c.args.size c.args.octets.now c.if-size-lt6.false c.if-octets-lt6.true (sym c.starts_with.ensures.value ∙ t),
  λ m. c.starts_with.ensures.value ∙ few_later c.args.size c.args.octets.now c.if-octets-lt6.true m,
)

pub returns-then-not-is_exif : goal.returns-then-not-is_exif
returns-then-not-is_exif c = (
  λ t. absurd (cc),
  λ m. absurd (both_ways c.is_exif.result c.if-not-is_exif.true
      (c.is_exif.ensures.value ∙ marked_later c.args.size c.args.octets.now c.if-octets-lt6.false m)),
)

pub returns-then-octets-lt10 : goal.returns-then-octets-lt10
returns-then-octets-lt10 c = (
  λ t. later_short c.args.size c.args.octets.now c.if-octets-lt6.false c.requires (sym c.is_exif.ensures.value ∙ c.if-not-is_exif.false)
      c.if-octets-lt10.true,
  λ m. refl,
)

pub returns : goal.returns
returns c =
    let header : c.is_header.result ≡ is_header (drop 6 c.args.octets.now) = c.is_header.ensures ∙ ap is_header c.rest.ensures in (
      λ t. later_long c.args.size c.args.octets.now c.if-octets-lt6.false c.requires (sym c.is_exif.ensures.value ∙ c.if-not-is_exif.false)
          c.if-octets-lt10.false (sym header ∙ not-true c.is_header.result t),
      λ m. not_from_false c.is_header.result
          (header ∙ long_later c.args.size c.args.octets.now c.if-octets-lt6.false c.if-octets-lt10.false m),
    )
