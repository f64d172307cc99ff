-- A block has at most one meaning.
use Rattle.std.proofs.Common.{◌≡◌, ℕ, List, refl, sym, ◌∙◌, ap}
use Rattle.px_bytes.specs.declared.Order.{Order}
use Rattle.px_bytes.specs.declared.Order.TheVariants.{Least, Most}
use Rattle.px_meaning.specs.Tree.{Meaning}
use Rattle.px_meaning.specs.Directory.{magic}
use Rattle.px_meaning.specs.Says.{meaning, SaysExif}

-- the first bytes determine the byte order
pub magic_decides : (o p : Order) → magic o ≡ magic p → o ≡ p
magic_decides Least Least e = refl
magic_decides Least Most e = cc
magic_decides Most Least e = cc
magic_decides Most Most e = refl

pub one_meaning : (b : List ℕ) (s t : Meaning) → SaysExif b s → SaysExif b t → s ≡ t
one_meaning b s t x y =
    let same : x.order ≡ y.order = magic_decides x.order y.order (sym x.is_block.begins ∙ y.is_block.begins) in
    x.means ∙ ap (meaning b) same ∙ sym y.means
