-- The answer for the XMP of two pictures, from what is known of each.
use Rattle.std.proofs.Common.{◌≡◌, sym, subst, ℕ, List, Result, Ok, Err, IfOk}
use Rattle.px_jpeg.specs.Head.{Picture, HasHead}
use Rattle.px_pictures.specs.declared.faults.Comparison.{Comparison}
use Rattle.px_pictures.specs.declared.faults.PictureFault.{PictureFault}
use Rattle.px_xmp_pictures.specs.declared.reading.ReadXmp.{ReadXmp}
use Rattle.px_xmp_pictures.specs.Xmp.{IsXmp, HasXmp, IsXmpAnswer, IsXmpComparison}

pub result_compares : (r : Result Comparison PictureFault) (f g : List ℕ) (x : ReadXmp) → HasXmp f x
    → IfOk r (λ c. (y : ReadXmp) × HasXmp g y × IsXmpAnswer x y c) → IfOk r (IsXmpComparison f g)
result_compares (Ok c) f g x h (y, k, a) = (x, y, h, k, a)
result_compares (Err e) f g x h a = tt

-- what is known of the XMP of a picture is known of the bytes in which its head was read
pub xmp_known : (p q : Picture) (b : List ℕ) (x : ReadXmp) → p ≡ q → (q.octets ≡ b) × HasHead b q.parts → IsXmp p x → HasXmp b x
xmp_known p q b x e (o, h) i = (q, o, subst (λ y. HasHead y q.parts) (sym o) h, subst (λ y. IsXmp y x) e i)
