-- The laws of the definitions.
use Rattle.std.specs.Prelude.{◌≡◌, ◌≢◌, ◌⊎◌, ℕ, List}
use Rattle.px_iim.specs.Group.{Record}
use Rattle.px_meaning.specs.Tree.{Meaning}
use Rattle.px_pictures.specs.declared.faults.MetadataFault.TheVariants.{OutOfMemory}
use Rattle.px_pictures.specs.declared.faults.PictureFault.{PictureFault}
use Rattle.px_pictures.specs.Faults.{IsPictureFault}
use Rattle.px_pictures.specs.Metadata.{HasMetadata}

-- The blocks of a picture have at most one list of meanings, and one of records.
abbrev pub OneMetadata : Type 0
OneMetadata = (b : List ℕ) (exif others : List Meaning) (iptc records : List Record) → HasMetadata b exif iptc
    → HasMetadata b others records → (exif ≡ others) × (iptc ≡ records)

-- If two pictures have a fault, not all of their blocks have meanings.
abbrev pub FaultsDecide : Type 0
FaultsDecide = (f g : List ℕ) (refused : ℕ) (e : PictureFault) (exif others : List Meaning) (iptc records : List Record)
    → e.fault ≢ OutOfMemory → IsPictureFault f g refused e → HasMetadata f exif iptc → HasMetadata g others records → ⊥

-- Two pictures have at most one first fault, besides that an allocation failed.
abbrev pub OneFault : Type 0
OneFault = (f g : List ℕ) (refused lacking : ℕ) (d e : PictureFault) → d.fault ≢ OutOfMemory → e.fault ≢ OutOfMemory
    → IsPictureFault f g refused d → IsPictureFault f g lacking e → d ≡ e

-- All blocks of two pictures have meanings, or the pictures have a first fault, which doesn't rest on an allocation.
abbrev pub IsMetadataOrFault : List ℕ → List ℕ → Type 0
IsMetadataOrFault f g =
    ((exif others : List Meaning) × (iptc records : List Record) × HasMetadata f exif iptc × HasMetadata g others records)
    ⊎ ((e : PictureFault) × (e.fault ≢ OutOfMemory) × IsPictureFault f g 0 e)
