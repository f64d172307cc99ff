-- What is wrong with the nesting of elements, and where.
use Rattle.std.specs.Prelude.{◌≡◌, ◌≢◌, ◌≤◌, ◌⊎◌, ℕ, nat_eq, if◌then◌else◌, codes, List, [], ◌∷◌, length, drop}
use Rattle.std.specs.List.{starts_with}
use Rattle.px_xmp_marks.specs.Reading.{Named}
use Rattle.px_xmp_markup.specs.declared.faults.TreeCause.{TreeCause}
use Rattle.px_xmp_markup.specs.declared.faults.TreeCause.TheVariants.{NoMark, DocumentType, OtherEnd, TooDeep, OutsideRoot}
use Rattle.px_xmp_markup.specs.declared.faults.TreeCause.TheVariants.{SecondRoot, NoRoot, NoEnd}
use Rattle.px_xmp_markup.specs.Kinds.{Kind, Opening, Closing, Alone, Misc, Data, AreKinds, Begins}
use Rattle.px_xmp_markup.specs.Nesting.{limit, Place, Among, After, LeadTo}

-- a start tag, or the tag of an empty element, is wrong here: inside 100 elements, or after the root
abbrev pub IsWrongStart : Place → TreeCause → Type 0
IsWrongStart (Among names) c = (limit ≤ length names) × (c ≡ TooDeep)
IsWrongStart After c = c ≡ SecondRoot

-- an end tag is wrong here: it has not the name of the innermost element, or there is none
abbrev pub IsWrongEnd : Named → Place → TreeCause → Type 0
IsWrongEnd n (Among []) c = c ≡ OtherEnd
IsWrongEnd n (Among (m ∷ outer)) c = (n ≢ m) × (c ≡ OtherEnd)
IsWrongEnd n After c = c ≡ OtherEnd

-- data is wrong here: outside of the root
abbrev pub IsWrongData : Place → TreeCause → Type 0
IsWrongData (Among []) c = c ≡ OutsideRoot
IsWrongData (Among (m ∷ outer)) c = ⊥
IsWrongData After c = c ≡ OutsideRoot

-- a mark of this kind is wrong here
abbrev pub IsWrong : Kind → Place → TreeCause → Type 0
IsWrong (Opening n) p c = IsWrongStart p c
IsWrong (Closing n) p c = IsWrongEnd n p c
IsWrong (Alone n) p c = IsWrongStart p c
IsWrong Misc p c = ⊥
IsWrong Data p c = IsWrongData p c

-- the end is wrong here: before the root, or inside an element
abbrev pub IsCut : Place → TreeCause → Type 0
IsCut (Among []) c = c ≡ NoRoot
IsCut (Among (m ∷ outer)) c = c ≡ NoEnd
IsCut After c = ⊥

-- the cause of octets that begin with no mark: a document type before the root (production 28), or anything else
abbrev pub unread : Place → List ℕ → TreeCause
unread (Among []) y = if starts_with nat_eq y (codes "<!DOCTYPE") then DocumentType else NoMark
unread (Among (m ∷ outer)) y = NoMark
unread After y = NoMark

-- what follows is wrong at this place
abbrev pub IsFaulty : Place → List ℕ → TreeCause → Type 0
IsFaulty p y c =
    ((y ≡ []) × IsCut p c) ⊎ ((k : Kind) × Begins k y × IsWrong k p c)
    ⊎ ((y ≢ []) × ((k : Kind) → Begins k y → ⊥) × (c ≡ unread p y))

-- the first fault: the octets before it are the beginning of a tree
pub record IsTreeFault (x : List ℕ) (c : TreeCause) (n : ℕ) : Type 0 where
  pub within : n ≤ length x
  pub before : List Kind
  pub place : Place
  pub marked : AreKinds before x (drop n x)
  pub leads : LeadTo place before
  pub wrong : IsFaulty place (drop n x) c
