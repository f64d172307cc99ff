-- What the contract of a call that allocates states of failed allocations.
use Rattle.std.specs.Prelude.{◌≡◌, ◌+◌, ℕ, List, [], length, Result, Ok, Err}
use Rattle.px_bytes.specs.Allocations.{MemoryCounts}
use Rattle.px_xmp_text.specs.Values.{Label, opening_tag, end_tag}
use Rattle.px_xmp_forms.specs.Forms.{language_octets}
use Rattle.px_xmp_forms.specs.declared.faults.Refusal.{Refusal}
use Rattle.px_xmp_forms.specs.declared.faults.Refusal.TheVariants.{Content, OutOfMemory}

-- OutOfMemory means one failed allocation; any other result means none: `old` and `new` are the counts
abbrev pub CountsAllocFailureInPacketBy : {X : Type 0} → Result X Refusal → ℕ → ℕ → Type 0
CountsAllocFailureInPacketBy (Ok x) old new = new ≡ old
CountsAllocFailureInPacketBy (Err (Content cause place)) old new = new ≡ old
CountsAllocFailureInPacketBy (Err OutOfMemory) old new = new ≡ old + 1

-- the same, with the counts of a memory
abbrev pub CountsAllocFailureInPacket : {X : Type 0} → Result X Refusal → MemoryCounts → MemoryCounts → Type 0
CountsAllocFailureInPacket r old new = CountsAllocFailureInPacketBy r old.failed_allocations new.failed_allocations

-- the octets of the tags of a label, without the end of the start tag
abbrev pub tag_octets : Label → ℕ
tag_octets l = length (opening_tag l []) + length (end_tag l [])

-- for the element of a text, whose normal form x is: its octets, and the language once more
abbrev pub text_request : Label → List ℕ → List ℕ → ℕ
text_request l language x = tag_octets l + length (language_octets language) + length x + length language

-- for the element of a URI, whose normal form x is: its octets, and those of an end tag, which it doesn't have
abbrev pub uri_request : Label → List ℕ → ℕ
uri_request l x = tag_octets l + length x + 18
