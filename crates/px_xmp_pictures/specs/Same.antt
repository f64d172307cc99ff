-- Whether two pictures have the same Exif, IPTC and XMP.
-- Example: two pictures without Exif and IPTC, whose packets have the same properties under other prefixes, are the same.
use Rattle.std.specs.Prelude.{◌≡◌, ◌⊎◌, ℕ, List}
use Rattle.px_pictures.specs.declared.faults.Comparison.{Comparison}
use Rattle.px_pictures.specs.declared.faults.Comparison.TheVariants.{Same, Different, NotRead}
use Rattle.px_pictures.specs.declared.faults.PictureSide.TheVariants.{First, Second}
use Rattle.px_pictures.specs.Same.{IsComparison}
use Rattle.px_xmp_pictures.specs.Xmp.{IsXmpComparison}

-- The answer of two comparisons of the same pictures. A known difference comes first; then a place of the first picture that isn't read;
-- then one of the second. The places of the first comparison come before those of the other.
abbrev pub joint : Comparison → Comparison → Comparison
joint Different other = Different
joint Same other = other
joint (NotRead First u) Different = Different
joint (NotRead First u) other = NotRead First u
joint (NotRead Second u) Different = Different
joint (NotRead Second u) (NotRead First v) = NotRead First v
joint (NotRead Second u) other = NotRead Second u

-- the Exif and IPTC are different; or the answer is that for Exif and IPTC and that for XMP
abbrev pub IsComparisonOfAll : List ℕ → List ℕ → Comparison → Type 0
IsComparisonOfAll f g c =
    (IsComparison f g Different × (c ≡ Different))
    ⊎ ((blocks xmp : Comparison) × IsComparison f g blocks × IsXmpComparison f g xmp × (c ≡ joint blocks xmp))
