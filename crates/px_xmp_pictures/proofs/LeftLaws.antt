-- Packets that aren't read, and why.
use Rattle.std.proofs.Common.{◌≡◌, ◌∙◌, refl, sym, inl, inr, subst, None, IfOk, ℕ, true, false, List, Result, Ok, Err}
use Rattle.px_jpeg.specs.Head.{Picture}
use Rattle.px_pictures.specs.declared.faults.MetadataFault.{MetadataFault}
use Rattle.px_pictures.specs.Xmp.{has_part, IsOtherXmp}
use Rattle.px_xmp.specs.Accepted.{PacketFits}
use Rattle.px_xmp.specs.Laws.{IsFormOfPacket}
use Rattle.px_xmp_forms.specs.Causes.{FailsByMemory}
use Rattle.px_xmp_forms.specs.declared.faults.Refusal.{Refusal}
use Rattle.px_xmp_forms.specs.declared.faults.Refusal.TheVariants as refusal
use Rattle.px_xmp_pictures.specs.Counts.{unjoined, IfLeft}
use Rattle.px_xmp_pictures.specs.Joined.{label, IsLeftPacket}
use Rattle.px_xmp_pictures.specs.Xmp.{IsLeft, IsXmp}
use Rattle.px_xmp_pictures.specs.declared.reading.ReadXmp.{ReadXmp}
use Rattle.px_xmp_pictures.specs.declared.reading.ReadXmp.TheVariants.{NotRead}
use Rattle.px_xmp_pictures.specs.declared.unjoined.Unjoined.{Unjoined}
use Rattle.px_xmp_pictures.specs.declared.unjoined.Unjoined.TheVariants as why

-- a call is left because one inside it is
pub left_map : (X Y P Q : Type 0) (e : Unjoined) → (P → Q) → IfLeft {X = X} (Err e) P → IfLeft {X = Y} (Err e) Q
left_map X Y P Q why.NotRead f h = f h
left_map X Y P Q why.OutOfMemory f h = tt

-- a packet that is refused has no meaning within the limits
pub refused_fits : (X Y : Type 0) (e : Refusal) (x : List ℕ) → (PacketFits x → FailsByMemory {X = X} (Err e))
    → IfLeft {X = Y} (Err (unjoined e)) (PacketFits x → ⊥)
refused_fits X Y (refusal.Content cause place) x h = h
refused_fits X Y refusal.OutOfMemory x h = tt

pub refused_left : (X Y : Type 0) (e : Refusal) (x : List ℕ) → (PacketFits x → FailsByMemory {X = X} (Err e))
    → IfLeft {X = Y} (Err (unjoined e)) (IsLeftPacket x)
refused_left X Y (refusal.Content cause place) x h = inl h
refused_left X Y refusal.OutOfMemory x h = tt

-- a form with a label names extended XMP
pub named_left : (x form : List ℕ) → IsFormOfPacket x form → has_part label form ≡ true → IsLeftPacket x
named_left x form is named = inr (form, is, λ none. let clash : true ≡ false = sym named ∙ none in absurd (cc))

-- a place that isn't read
pub left_read : (X : Type 0) (r : Result ReadXmp MetadataFault) (p : Picture) (start : ℕ) (e : Unjoined) → IsOtherXmp p.octets None
    → IfLeft {X = X} (Err e) (IsLeft p start) → IfOk r (λ x. x ≡ NotRead (record { joined = false; start = start }))
    → IfOk r (λ x. e ≡ why.NotRead) → IfOk r (IsXmp p)
left_read X (Ok x) p start why.NotRead other left is said = subst (IsXmp p) (sym is) (inr (other, refl, left))
left_read X (Ok x) p start why.OutOfMemory other left is said = let clash : why.OutOfMemory ≡ why.NotRead = said in absurd (cc)
left_read X (Err f) p start e other left is said = tt
