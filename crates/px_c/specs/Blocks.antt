-- What the call for the blocks of a JPEG picture returns, and what it stores for its caller.
use Rattle.std.specs.Prelude.{◌≡◌, ◌⊎◌, ◌<◌, ℕ, if◌then◌else◌, List, length, map}
use Rattle.px_jpeg.specs.declared.faults.HeadCause.{HeadCause}
use Rattle.px_jpeg.specs.declared.parts.Part.{Part}
use Rattle.px_jpeg.specs.Blocks.{blocks}
use Rattle.px_jpeg.specs.Front.{EndedBefore}
use Rattle.px_jpeg.specs.Head.{HasHead}
use Rattle.px_pictures.specs.declared.places.BlockPlace.{BlockPlace}
use Rattle.px_pictures.specs.Places.{joined_bytes, ArePlaces}
use Rattle.px_c.specs.declared.blocks.ExifnormJpegBlock.{ExifnormJpegBlock}
use Rattle.px_c.specs.declared.blocks.ExifnormJpegSizes.{ExifnormJpegSizes}
use Rattle.px_c.specs.declared.jpeg.ExifnormJpegFault.{ExifnormJpegFault}
use Rattle.px_c.specs.Jpeg.{head_cause, piece_kind, IsStored}

-- the place of a block as the caller of C sees it
abbrev pub seen_place : BlockPlace → ExifnormJpegBlock
seen_place p = record { kind = piece_kind p.kind; joined = if p.joined then 1 else 0; start = p.start; size = p.size }

-- the places of the blocks of some parts of the picture b are stored, and the joined bytes of those that have more than one piece
abbrev pub StoresPlaces : List ℕ → List Part → ExifnormJpegSizes → List ExifnormJpegBlock → List ExifnormJpegBlock → List ℕ → List ℕ
    → Type 0
StoresPlaces b parts sizes old new out out_now = (places : List BlockPlace) × ArePlaces b parts places
    × IsStored (map seen_place places) sizes.blocks old new × IsStored (joined_bytes b parts) sizes.joined out out_now

-- all blocks of the picture b are stored
abbrev pub StoresBlocks : List ℕ → ExifnormJpegSizes → List ExifnormJpegBlock → List ExifnormJpegBlock → List ℕ → List ℕ → Type 0
StoresBlocks b sizes old new out out_now = (parts : List Part) × HasHead b parts × StoresPlaces b parts sizes old new out out_now

-- the head has this first fault, and the blocks that end before the fault are stored: `old` and
-- `new` are the caller's array before and after the call, `out` and `out_now` its buffer
abbrev pub StoresEnded : List ℕ → ExifnormJpegFault → ExifnormJpegSizes → List ExifnormJpegBlock → List ExifnormJpegBlock → List ℕ → List ℕ
    → Type 0
StoresEnded b fault sizes old new out out_now = (parts : List Part) × (cause : HeadCause) × (fault.cause ≡ head_cause cause)
    × EndedBefore b parts cause fault.place × StoresPlaces b parts sizes old new out out_now

-- one of the arrays is too short for the blocks, or for those that end before the first fault, and both are unchanged
abbrev pub IsTooShortForBlocks : List ℕ → ExifnormJpegSizes → List ExifnormJpegBlock → List ExifnormJpegBlock → List ℕ → List ℕ → Type 0
IsTooShortForBlocks b sizes old new out out_now = (parts : List Part)
    × (HasHead b parts ⊎ ((cause : HeadCause) × (p : ℕ) × EndedBefore b parts cause p)) × (sizes.blocks ≡ length (blocks b parts))
    × (sizes.joined ≡ length (joined_bytes b parts)) × ((length old < sizes.blocks) ⊎ (length out < sizes.joined))
    × (new ≡ old) × (out_now ≡ out)
