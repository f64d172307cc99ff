-- A segment of which only the first bytes are known, and whether it may continue a block of Exif.
use Rattle.std.specs.Prelude.{◌≡◌, ◌<◌, ◌+◌, ℕ, true, false, List, ◌++◌, length, drop}
use Rattle.std.specs.List.{AllByRecursion}
use Rattle.px_jpeg.specs.Pieces.{is_exif, is_header}

-- with some more bytes these are n bytes of data of an APP1 segment, E1, of Exif without a header of TIFF
pub record MayBeLater (n : ℕ) (x : List ℕ) : Type 0 where
  pub more : List ℕ
  pub octets : AllByRecursion (λ o. o < 256) more
  pub counted : length x + length more ≡ n
  pub exif : is_exif 225 (x ++ more) ≡ true
  pub later : is_header (drop 6 (x ++ more)) ≡ false
