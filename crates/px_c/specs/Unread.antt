-- What the call for places that aren't read returns.
use Rattle.std.specs.Prelude.{◌≡◌, ℕ, if◌then◌else◌, Option, Some, None, List}
use Rattle.px_pictures.specs.declared.faults.MetadataFault.{MetadataFault}
use Rattle.px_pictures.specs.declared.faults.MetadataFault.TheVariants.{Head, TooLong, Block, OutOfMemory}
use Rattle.px_pictures.specs.declared.unread.Unread.{Unread}
use Rattle.px_pictures.specs.Faults.{IsHeadFault}
use Rattle.px_pictures.specs.Unread.{IsUnread}
use Rattle.px_c.specs.declared.jpeg.ExifnormJpegFault.{ExifnormJpegFault}
use Rattle.px_c.specs.declared.unread.ExifnormUnreadPart.{ExifnormUnreadPart}
use Rattle.px_c.specs.Jpeg.{head_cause}

-- a place that isn't read as the caller of C sees it; None: found is 0
abbrev pub seen_unread : Option Unread → ExifnormUnreadPart
seen_unread None = record { found = 0; joined = 0; start = 0 }
seen_unread (Some u) = record { found = 1; joined = if u.joined then 1 else 0; start = u.start }

-- the picture's first place that isn't read, or that there is none
abbrev pub ShowsUnread : List ℕ → ExifnormUnreadPart → Type 0
ShowsUnread b seen = (u : Option Unread) × IsUnread b u × (seen ≡ seen_unread u)

-- a fault of a head as the caller of C sees it
abbrev pub IsSeenHeadFault : MetadataFault → ExifnormJpegFault → Type 0
IsSeenHeadFault (Head e) seen = (seen.cause ≡ head_cause e.cause) × (seen.place ≡ e.place)
IsSeenHeadFault TooLong seen = (seen.cause ≡ 105) × (seen.place ≡ 0)
IsSeenHeadFault (Block k n cause place) seen = ⊥
IsSeenHeadFault OutOfMemory seen = ⊥

-- the picture's first fault: it has no head, or too many bytes are joined
abbrev pub RefusesJoining : List ℕ → ExifnormJpegFault → Type 0
RefusesJoining b seen = (e : MetadataFault) × (refused : ℕ) × IsSeenHeadFault e seen × IsHeadFault b refused e
