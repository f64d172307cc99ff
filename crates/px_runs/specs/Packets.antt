-- How a file is printed that is a packet of XMP.
use Rattle.std.specs.Prelude.{◌++◌, ℕ, Bool, true, false, List, None, Result, Ok, Err, IfOk, OnOk, codes, decimal, ⊤}
use Rattle.px_bytes.specs.Allocations.{MemoryCounts}
use Rattle.px_bytes.specs.Devices.{Device}
use Rattle.px_engine.specs.declared.Fault.{Fault}
use Rattle.px_engine.specs.declared.Fault.TheVariants as fault
use Rattle.px_xmp.specs.Accepted.{PacketFits}
use Rattle.px_xmp.specs.Laws.{HasNoMeaning}
use Rattle.px_xmp.specs.Packet.{IsPacket}
use Rattle.px_xmp.specs.Refusals.{IfRefused, IsRefused}
use Rattle.px_xmp_forms.specs.Allocations.{CountsAllocFailureInPacket}
use Rattle.px_xmp_forms.specs.Causes.{is_rare, name_of, IfWrong, FailsByMemory}
use Rattle.px_xmp_forms.specs.declared.faults.Cause.{Cause}
use Rattle.px_xmp_forms.specs.declared.faults.Refusal.{Refusal}
use Rattle.px_xmp_forms.specs.declared.faults.Refusal.TheVariants.{Content, OutOfMemory}
use Rattle.px_xmp_lines.specs.Lines.{is_packet, ArePrinted}
use Rattle.px_runs.specs.Lines.{Reports, ReportsFault}

-- whether a file is refused as a block and begins as a packet does
abbrev pub is_other : Result ⊤ Fault → List ℕ → Bool
is_other (Err (fault.Refused cause place)) file = is_packet file
is_other (Err fault.NormalTooLong) file = false
is_other (Err fault.OutOfMemory) file = false
is_other (Err fault.ReadFailed) file = false
is_other (Err fault.WriteFailed) file = false
is_other (Ok x) file = false

-- the end of the line of a packet that is refused
abbrev pub end_of_packet : Bool → List ℕ
end_of_packet true = codes " (rare: another reader may read the packet, as that of exifnorm-pictures)\n"
end_of_packet false = codes "\n"

-- the line of a packet that is refused, with its line feed
abbrev pub packet_line : Cause → ℕ → List ℕ
packet_line cause place =
    codes "refused: " ++ (name_of cause ++ (codes " at " ++ (decimal place ++ end_of_packet (is_rare cause))))

-- the text of a packet; or the line of its first fault, or of a failed allocation
abbrev pub ReportsPacket : Result (List ℕ) Refusal → ℕ → Device → Type 0
ReportsPacket (Ok text) status lines = Reports 0 text status lines
ReportsPacket (Err (Content cause place)) status lines = Reports 2 (packet_line cause place) status lines
ReportsPacket (Err OutOfMemory) status lines = ReportsFault fault.OutOfMemory None status lines

-- The text of a packet, or why it has none. A file with a text is a document in UTF-8, perhaps with padding; its text has line feeds and
-- the octets from space to tilde. A cause is that of px_xmp, at that place, and a file that is wrong by it has no meaning. A file with a
-- meaning within px_xmp's limits has a text, if memory suffices. This definition doesn't state which properties a text has.
pub record IsTextOf (file : List ℕ) (r : Result (List ℕ) Refusal) : Type 0 where
  pub packet : OnOk r (IsPacket file)
  pub printed : IfOk r ArePrinted
  pub layer : IfRefused r (IsRefused file)
  pub refused : IfWrong r (HasNoMeaning file)
  pub accepts : PacketFits file → FailsByMemory r

-- a packet was printed or refused
abbrev pub PrintsPacket : List ℕ → Device → MemoryCounts → MemoryCounts → ℕ → Type 0
PrintsPacket file lines allocs allocs_now status = (r : Result (List ℕ) Refusal) × IsTextOf file r
    × CountsAllocFailureInPacket r allocs allocs_now × ReportsPacket r status lines
