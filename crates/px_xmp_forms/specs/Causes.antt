-- The names of causes and their numbers, and which of them leave a packet to another reader.
use Rattle.std.specs.Prelude.{◌≡◌, ◌==◌, ℕ, List, codes, if◌then◌else◌, Option, Some, None, Bool, true, false, ⊤, Result, Ok, Err}
use Rattle.px_xmp_forms.specs.declared.faults.Refusal.{Refusal}
use Rattle.px_xmp_forms.specs.declared.faults.Refusal.TheVariants.{Content, OutOfMemory}
use Rattle.px_xmp_forms.specs.declared.faults.Cause.{Cause}
use Rattle.px_xmp_forms.specs.declared.faults.Cause.TheVariants.{TooLong, BadCharacter, BadMarkup, BadReference}
use Rattle.px_xmp_forms.specs.declared.faults.Cause.TheVariants.{DocumentType, OtherEnd, AttributeTwice, BadPrefix}
use Rattle.px_xmp_forms.specs.declared.faults.Cause.TheVariants.{NoRoot, TooDeep, NoRdf, SeveralSubjects}
use Rattle.px_xmp_forms.specs.declared.faults.Cause.TheVariants.{RareEncoding, RareName, RareNamespace, RareCount}
use Rattle.px_xmp_forms.specs.declared.faults.Cause.TheVariants.{RareElement, RareAttribute, RareText, RareLanguage}
use Rattle.px_xmp_forms.specs.declared.faults.Cause.TheVariants.{RareResource, RareRepeated, RareLength, RareDepth}

-- the name of a cause, as it is printed, in ASCII
abbrev pub name_of : Cause → List ℕ
name_of TooLong = codes "XmpTooLong"
name_of BadCharacter = codes "XmpBadCharacter"
name_of BadMarkup = codes "XmpBadMarkup"
name_of BadReference = codes "XmpBadReference"
name_of DocumentType = codes "XmpDocumentType"
name_of OtherEnd = codes "XmpOtherEnd"
name_of AttributeTwice = codes "XmpAttributeTwice"
name_of BadPrefix = codes "XmpBadPrefix"
name_of NoRoot = codes "XmpNoRoot"
name_of TooDeep = codes "XmpTooDeep"
name_of NoRdf = codes "XmpNoRdf"
name_of SeveralSubjects = codes "XmpSeveralSubjects"
name_of RareEncoding = codes "XmpRareEncoding"
name_of RareName = codes "XmpRareName"
name_of RareNamespace = codes "XmpRareNamespace"
name_of RareCount = codes "XmpRareCount"
name_of RareElement = codes "XmpRareElement"
name_of RareAttribute = codes "XmpRareAttribute"
name_of RareText = codes "XmpRareText"
name_of RareLanguage = codes "XmpRareLanguage"
name_of RareResource = codes "XmpRareResource"
name_of RareRepeated = codes "XmpRareRepeated"
name_of RareLength = codes "XmpRareLength"
name_of RareDepth = codes "XmpRareDepth"

-- the cause with a number, if there is one; those that leave a packet to another reader follow 250
unfoldable pub cause_of : ℕ → Option Cause
cause_of n =
    if n == 201 then Some TooLong
    else if n == 202 then Some BadCharacter
    else if n == 203 then Some BadMarkup
    else if n == 204 then Some BadReference
    else if n == 205 then Some DocumentType
    else if n == 206 then Some OtherEnd
    else if n == 207 then Some AttributeTwice
    else if n == 208 then Some BadPrefix
    else if n == 209 then Some NoRoot
    else if n == 210 then Some TooDeep
    else if n == 211 then Some NoRdf
    else if n == 212 then Some SeveralSubjects
    else if n == 251 then Some RareEncoding
    else if n == 252 then Some RareName
    else if n == 253 then Some RareNamespace
    else if n == 254 then Some RareCount
    else if n == 255 then Some RareElement
    else if n == 256 then Some RareAttribute
    else if n == 257 then Some RareText
    else if n == 258 then Some RareLanguage
    else if n == 259 then Some RareResource
    else if n == 260 then Some RareRepeated
    else if n == 261 then Some RareLength
    else if n == 262 then Some RareDepth
    else None

-- RDF leaves the packet to another reader
abbrev pub is_rare_in_rdf : Cause → Bool
is_rare_in_rdf RareNamespace = true
is_rare_in_rdf RareElement = true
is_rare_in_rdf RareAttribute = true
is_rare_in_rdf RareText = true
is_rare_in_rdf RareLanguage = true
is_rare_in_rdf RareResource = true
is_rare_in_rdf RareRepeated = true
is_rare_in_rdf RareLength = true
is_rare_in_rdf RareDepth = true
is_rare_in_rdf cause = false

-- the packet may have a meaning: so it is left, or for its encoding, a name, or a number of attributes or prefixes
abbrev pub is_rare : Cause → Bool
is_rare RareEncoding = true
is_rare RareName = true
is_rare RareCount = true
is_rare cause = is_rare_in_rdf cause

-- a call says of no packet that it is wrong, and leaves one only by a cause of RDF
abbrev pub IsRare : {X : Type 0} → Result X Refusal → Type 0
IsRare (Ok x) = ⊤
IsRare (Err (Content cause place)) = is_rare_in_rdf cause ≡ true
IsRare (Err OutOfMemory) = ⊤

-- if a call returns a cause by which the packet is wrong, and not rare, P holds
abbrev pub IfWrong : {X : Type 0} → Result X Refusal → Type 0 → Type 0
IfWrong (Ok x) P = ⊤
IfWrong (Err (Content cause place)) P = is_rare cause ≡ false → P
IfWrong (Err OutOfMemory) P = ⊤

-- a call fails only if memory runs out
abbrev pub FailsByMemory : {X : Type 0} → Result X Refusal → Type 0
FailsByMemory (Ok x) = ⊤
FailsByMemory (Err (Content cause place)) = ⊥
FailsByMemory (Err OutOfMemory) = ⊤
