-- Photoshop's image resources. Adobe Photoshop File Formats Specification, "Image Resource Blocks".
-- Example: 38 42 49 4D 04 04 00 00 00 00 00 02 61 62 is the resource 0404, IPTC, with no name and the data 61 62.
use Rattle.std.specs.Prelude.{◌≡◌, ◌≤◌, ◌+◌, ◌*◌, ◌%◌, ℕ, true, List, [], ◌∷◌, ◌++◌, length, drop}
use Rattle.std.specs.List.{AllByRecursion}
use Rattle.px_jpeg.specs.declared.resources.Resource.{Resource}
use Rattle.px_jpeg.specs.ResourceReading.{is_signature, number4}

-- the bytes x at offset p are this resource without the byte that pads its data: a signature of four bytes, a number of two, a name
-- after its length, padded to an even number of bytes with its length, the length of the data in four bytes, and the data
pub record IsResource (p : ℕ) (r : Resource) (x : List ℕ) : Type 0 where
  pub signature : List ℕ
  pub high : ℕ
  pub low : ℕ
  pub name : List ℕ
  pub fill : List ℕ
  pub count : List ℕ
  pub octets : List ℕ
  pub signed : is_signature signature ≡ true
  pub four : length signature ≡ 4
  pub number : r.number ≡ 256 * high + low
  pub filled : length fill ≡ (length name + 1) % 2
  pub long : length count ≡ 4
  pub counted : number4 count ≡ length octets
  pub whole : x ≡ signature ++ (high ∷ low ∷ length name ∷ (name ++ (fill ++ (count ++ octets))))
  pub start : r.start + length octets ≡ p + length x
  pub size : r.size ≡ length octets

-- the bytes x at offset p are these resources and then `rest`; a resource of odd length has one more byte after it, which may be
-- missing at the end
abbrev pub Sequence : ℕ → List Resource → List ℕ → List ℕ → Type 0
Sequence p [] x rest = x ≡ rest
Sequence p (r ∷ rs) x rest = (a : List ℕ) × (b : List ℕ) × (x ≡ a ++ b) × IsResource p r a
    × Sequence (p + length a + r.size % 2) rs (drop (r.size % 2) b) rest

-- the bytes x are these resources and then `rest`, and no resource is at the start of `rest`
pub record HasResources (x : List ℕ) (rs : List Resource) (rest : List ℕ) : Type 0 where
  pub sequence : Sequence 0 rs x rest
  pub over : (p : ℕ) (r : Resource) (a b : List ℕ) → rest ≡ a ++ b → IsResource p r a → ⊥

-- each resource's data are in the bytes
abbrev pub ResourcesInside : List ℕ → List Resource → Type 0
ResourcesInside x rs = AllByRecursion (λ r. r.start + r.size ≤ length x) rs
