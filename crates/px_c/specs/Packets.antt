-- What the call for a picture's packet of XMP returns, and what it stores for its caller.
use Rattle.std.specs.Prelude.{◌≡◌, ℕ, List}
use Rattle.px_jpeg.specs.declared.faults.HeadCause.{HeadCause}
use Rattle.px_jpeg.specs.declared.packets.FoundXmp.{FoundXmp}
use Rattle.px_jpeg.specs.declared.packets.FoundXmp.TheVariants.{Absent, Packet, NotRead}
use Rattle.px_jpeg.specs.declared.parts.Part.{Part}
use Rattle.px_jpeg.specs.Fault.{HasHeadFault}
use Rattle.px_jpeg.specs.Head.{HasHead}
use Rattle.px_jpeg.specs.Xmp.{xmp_of}
use Rattle.px_c.specs.declared.jpeg.ExifnormJpegFault.{ExifnormJpegFault}
use Rattle.px_c.specs.declared.packets.ExifnormJpegPacket.{ExifnormJpegPacket}
use Rattle.px_c.specs.declared.unread.ExifnormUnreadPart.{ExifnormUnreadPart}
use Rattle.px_c.specs.Jpeg.{head_cause}

-- all XMP of a picture as the caller of C sees it: none, or one packet
abbrev pub IsSeenPacket : FoundXmp → ExifnormJpegPacket → Type 0
IsSeenPacket Absent seen = seen ≡ record { found = 0; start = 0; size = 0 }
IsSeenPacket (Packet start size) seen = seen ≡ record { found = 1; start = start; size = size }
IsSeenPacket (NotRead start) seen = ⊥

-- where XMP is that isn't read, as the caller of C sees it
abbrev pub IsSeenRest : FoundXmp → ExifnormUnreadPart → Type 0
IsSeenRest (NotRead start) seen = seen ≡ record { found = 1; joined = 0; start = start }
IsSeenRest other seen = ⊥

-- the picture has a head, and its XMP is all read
abbrev pub ShowsPacket : List ℕ → ExifnormJpegPacket → Type 0
ShowsPacket b seen = (parts : List Part) × HasHead b parts × IsSeenPacket (xmp_of b parts) seen

-- the picture has a head, and a second packet or extended XMP at this first place
abbrev pub LeavesRest : List ℕ → ExifnormUnreadPart → Type 0
LeavesRest b seen = (parts : List Part) × HasHead b parts × IsSeenRest (xmp_of b parts) seen

-- the head has this first fault
abbrev pub RefusesHead : List ℕ → ExifnormJpegFault → Type 0
RefusesHead b fault = (cause : HeadCause) × (fault.cause ≡ head_cause cause) × HasHeadFault b cause fault.place
