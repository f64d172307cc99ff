-- How a file that was read is printed, as a block or as a packet.
use Rattle.std.specs.Prelude.{◌≡◌, ◌⊎◌, ℕ, true, false, List, length, Option, Result, Ok, Err, ⊤}
use Rattle.px_bytes.specs.Allocations.{MemoryCounts, AsksAtMost}
use Rattle.px_bytes.specs.Devices.{Device}
use Rattle.px_bytes.specs.Reading.{ReadsUpTo}
use Rattle.px_bytes.specs.declared.Cause.{Cause}
use Rattle.px_engine.specs.declared.Fault.{Fault}
use Rattle.px_engine.specs.declared.Fault.TheVariants.{Refused}
use Rattle.px_engine.specs.Asking.{block_request}
use Rattle.px_engine.specs.Files.{Said}
use Rattle.px_engine.specs.Input.{CountsAllocFailureInRun, most_read}
use Rattle.px_engine.specs.Prints.{ReadsNothing}
use Rattle.px_engine.specs.Runs.{Stops}
use Rattle.px_xmp_forms.specs.declared.faults.Refusal.{Refusal}
use Rattle.px_xmp_lines.specs.Lines.{is_packet}
use Rattle.px_runs.specs.Endings.{ReportsText}
use Rattle.px_runs.specs.Packets.{is_other, PrintsPacket}
use Rattle.px_runs.specs.calls.Reporting.{ReportsPrinted}

-- the text of a packet, as a list of octets
abbrev pub text_in : {V : Type 0} → (V → List ℕ) → Result V Refusal → Result (List ℕ) Refusal
text_in items (Ok text) = Ok (items text)
text_in items (Err e) = Err e

-- after a text of a block; or a file that is refused as a block is printed as a packet
abbrev pub ReportsFile : Result ⊤ Fault → List ℕ → Device → MemoryCounts → MemoryCounts → ℕ → Type 0
ReportsFile r file lines allocs allocs_now status =
    ((is_other r file ≡ false) × (allocs_now ≡ allocs) × ReportsPrinted r status lines)
    ⊎ ((is_other r file ≡ true) × PrintsPacket file lines allocs allocs_now status)

-- a file that was read is printed as a block, or is refused as one
abbrev pub PrintsBlock : (Said → List ℕ) → List ℕ → Device → MemoryCounts → MemoryCounts → ℕ → Type 0
PrintsBlock text file lines allocs allocs_now status = (r : Result ⊤ Fault) × ReadsNothing r
    × CountsAllocFailureInRun r allocs allocs_now × AsksAtMost (block_request (length file)) allocs allocs_now × (is_other r file ≡ false)
    × ((left left_now : Option (List ℕ)) → ReadsUpTo left left_now most_read file → ReportsText text r left status lines)

-- it is refused as a block, and printed as a packet
abbrev pub PrintsOther : List ℕ → Device → MemoryCounts → MemoryCounts → ℕ → Type 0
PrintsOther file lines allocs allocs_now status = (between : MemoryCounts) × (cause : Cause) × (place : ℕ)
    × (between.failed_allocations ≡ allocs.failed_allocations) × AsksAtMost (block_request (length file)) allocs between
    × ((left left_now : Option (List ℕ)) → ReadsUpTo left left_now most_read file → Stops (Refused cause place) left)
    × (is_packet file ≡ true) × PrintsPacket file lines between allocs_now status

abbrev pub PrintsFile : (Said → List ℕ) → List ℕ → Device → MemoryCounts → MemoryCounts → ℕ → Type 0
PrintsFile text file lines allocs allocs_now status =
    PrintsBlock text file lines allocs allocs_now status ⊎ PrintsOther file lines allocs allocs_now status
