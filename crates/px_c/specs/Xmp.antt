-- What the calls for XMP packets return, and what they store for their caller.
use Rattle.std.specs.Prelude.{◌≡◌, ◌≤◌, ℕ, min, List, length, Some, true, false}
use Rattle.px_bytes.specs.Parts.{limit}
use Rattle.px_engine.specs.declared.normal.Given.{Given}
use Rattle.px_engine.specs.Slices.{IsPut}
use Rattle.px_xmp_forms.specs.declared.faults.Cause.{Cause}
use Rattle.px_xmp_forms.specs.Causes.{cause_of, is_rare}
use Rattle.px_xmp_forms.specs.Forms.{IsNormal}
use Rattle.px_xmp.specs.Laws.{IsFormOfPacket, HasNoMeaning, SayTheSame}
use Rattle.px_xmp.specs.Accepted.{FormFits}
use Rattle.px_xmp.specs.Refusals.{IsRefused}
use Rattle.px_c.specs.declared.faults.ExifnormFault.{ExifnormFault}

-- the normal form of what a packet means, which is accepted as a packet again, is put into the caller's buffer, or the buffer is too
-- small
abbrev pub PutsXmp : List ℕ → Given → List ℕ → List ℕ → Type 0
PutsXmp packet given old new =
    (form : List ℕ) × IsFormOfPacket packet form × FormFits form × IsPut given form old new

-- a normal packet that means what a packet means is put into the caller's buffer, or the buffer is too small
abbrev pub PutsUnsorted : List ℕ → Given → List ℕ → List ℕ → Type 0
PutsUnsorted packet given old new =
    (form : List ℕ) × SayTheSame packet form × IsNormal form × (length form ≤ limit) × IsPut given form old new

-- the number of a cause is stored with its offset, or with the greatest that is not after the longest packet
abbrev pub Stores : Cause → ℕ → ExifnormFault → Type 0
Stores c n fault = (cause_of fault.cause ≡ Some c) × (fault.place ≡ min n limit)

-- a packet is refused by a cause, which is stored
abbrev pub IsRefusal : List ℕ → Cause → ExifnormFault → Type 0
IsRefusal packet c fault = (n : ℕ) × IsRefused packet c n × Stores c n fault

-- this packet is wrong, and has no meaning
abbrev pub RefusesPacket : List ℕ → ExifnormFault → Type 0
RefusesPacket packet fault = (c : Cause) × (is_rare c ≡ false) × IsRefusal packet c fault × HasNoMeaning packet

-- this packet is left to another reader
abbrev pub LeavesPacket : List ℕ → ExifnormFault → Type 0
LeavesPacket packet fault = (c : Cause) × (is_rare c ≡ true) × IsRefusal packet c fault
