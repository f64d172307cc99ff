-- What a packet asks of the allocator: nothing, unless RDF judges it.
use Rattle.std.specs.Prelude.{◌≡◌, ℕ, false, List}
use Rattle.px_bytes.specs.Allocations.{MemoryCounts}
use Rattle.px_xmp_forms.specs.declared.faults.Cause.{Cause}
use Rattle.px_xmp.specs.Packet.{is_wide, IsPacket}
use Rattle.px_xmp.specs.Refusals.{IsRefusedFirst}

-- RDF judges a packet: it does not begin as UTF-16 or UTF-32 does, and is not too long, and its document is one
abbrev pub ReachesRdf : List ℕ → Type 0
ReachesRdf x = (is_wide x ≡ false) × IsPacket x

-- for any other nothing is asked for
abbrev pub AsksOnlyForRdf : List ℕ → MemoryCounts → MemoryCounts → Type 0
AsksOnlyForRdf x old new = (ReachesRdf x → ⊥) → new.asked ≡ old.asked

-- What is refused before RDF is no packet that RDF judges.
abbrev pub RdfIsLast : Type 0
RdfIsLast = (x : List ℕ) (c : Cause) (n : ℕ) → IsRefusedFirst x c n → ReachesRdf x → ⊥
