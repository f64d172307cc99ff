-- The normal form is a legal block of its meaning, and different meanings have different ones.
use Rattle.std.proofs.Common.{◌≡◌, ℕ, ◌≤◌, List, length, refl, sym, ◌∙◌, ap, subst}
use Rattle.px_bytes.specs.Parts.{limit}
use Rattle.px_bytes.specs.declared.Order.{Order}
use Rattle.px_bytes.specs.declared.Order.TheVariants.{Least, Most}
use Rattle.px_meaning.specs.Tree.{Meaning}
use Rattle.px_meaning.specs.Directory.{magic}
use Rattle.px_meaning.specs.Says.{meaning, SaysExif}
use Rattle.px_meaning.specs.Writable.{IsWritable}
use Rattle.px_layout.specs.Normal.{normal_plan, normal_exif}
use Rattle.px_layout.specs.Laws.{NormalIsLaid, FormDecides}
use Rattle.px_layout.specs.lemmas.LegalLaws.{legal_block_has_meaning}
use Rattle.px_layout.specs.lemmas.LineLaws.{laid_in_line, legal_in_line}

-- the first bytes determine the byte order
magic_decides : (o p : Order) → magic o ≡ magic p → o ≡ p
magic_decides Least Least e = refl
magic_decides Least Most e = cc
magic_decides Most Least e = cc
magic_decides Most Most e = refl

-- a block has at most one meaning
one_meaning : (b : List ℕ) (s t : Meaning) → SaysExif b s → SaysExif b t → s ≡ t
one_meaning b s t x y =
    let same : x.order ≡ y.order = magic_decides x.order y.order (sym x.is_block.begins ∙ y.is_block.begins) in
    x.means ∙ ap (meaning b) same ∙ sym y.means

-- ---- the normal form

-- The normal form is laid out by its plan, which is legal.
pub normal_is_laid : NormalIsLaid
normal_is_laid m f l = (legal_in_line m f l, laid_in_line m f)

-- So it has its meaning.
pub form_has_meaning : (s : Meaning) → IsWritable s → length (normal_exif s) ≤ limit → SaysExif (normal_exif s) s
form_has_meaning s f l =
    let is = normal_is_laid s f l in
    subst (λ b. SaysExif b s) (sym is.1) (legal_block_has_meaning s (normal_plan s) Most 0 f is.0)

-- Meanings have one normal form exactly if they are one.
pub form_decides : FormDecides
form_decides s t f g l k = (
  (
    λ e. one_meaning (normal_exif t) s t (subst (λ b. SaysExif b s) e (form_has_meaning s f l)) (form_has_meaning t g k),
    λ e. ap
        normal_exif e,
  ),
  form_has_meaning s f l,
)
