-- The numbers of statuses and kinds in C, and the names of causes by number.
use Rattle.std.specs.Prelude.{ℕ, List, [], codes, nat_lt, ◌==◌, if◌then◌else◌, Option, Some, None}
use Rattle.px_bytes.specs.declared.Cause.{Cause}
use Rattle.px_bytes.specs.Causes.{name_of, cause_of}
use Rattle.px_xmp_forms.specs.declared.faults.Cause.{Cause as PacketCause}
use Rattle.px_xmp_forms.specs.Causes.{name_of as packet_name_of, cause_of as packet_cause_of}
use Rattle.px_engine.specs.declared.kind.BlockKind.{BlockKind}
use Rattle.px_engine.specs.declared.kind.BlockKind.TheVariants as kind

-- the name of a cause; the empty text if there is no cause
abbrev pub text_of : Option Cause → List ℕ
text_of (Some c) = name_of c
text_of None = []

-- the name of a cause of a packet of XMP; the empty text if there is no cause
abbrev pub text_of_packet : Option PacketCause → List ℕ
text_of_packet (Some c) = packet_name_of c
text_of_packet None = []

-- of a block, or of a packet of XMP: these numbers follow 200
abbrev pub other_cause_name : ℕ → List ℕ
other_cause_name n = if nat_lt 200 n then text_of_packet (packet_cause_of n) else text_of (cause_of n)

-- of a JPEG's head: the numbers are those of `head_cause`, and 105 for too many joined bytes
unfoldable pub cause_name : ℕ → List ℕ
cause_name n =
    if n == 101 then codes "JpegNoStart"
    else if n == 102 then codes "JpegNoMarker"
    else if n == 103 then codes "JpegLength"
    else if n == 104 then codes "JpegCut"
    else if n == 105 then codes "JpegTooLong"
    else other_cause_name n

-- ---- kinds

-- EXIFNORM_EXIF is 1, and EXIFNORM_IIM, which is IPTC's IIM, is 2
abbrev pub kind_number : BlockKind → ℕ
kind_number kind.Exif = 1
kind_number kind.Iim = 2

-- ---- statuses of all calls. 1 is not used: it is the program's status for different blocks

-- success
abbrev pub done : ℕ
done = 0

-- the block has no meaning; of two blocks, the first
abbrev pub refused : ℕ
refused = 2

-- the normal form is longer than the limit
abbrev pub too_long : ℕ
too_long = 3

-- an allocation failed
abbrev pub no_memory : ℕ
no_memory = 4

-- the caller's buffer is too short
abbrev pub too_little_room : ℕ
too_little_room = 5

-- of two blocks, the second has no meaning
abbrev pub second_refused : ℕ
second_refused = 6

-- two pictures are the same as far as they are read; the first has a place that isn't read
abbrev pub not_read : ℕ
not_read = 7

-- they are the same as far as they are read; the first has no place that isn't read, and the second has one
abbrev pub second_not_read : ℕ
second_not_read = 8

-- the packet of XMP may have a meaning that another reader reads
abbrev pub rare : ℕ
rare = 9
