-- How elements are nested. XML 1.0, 2.1, 2.8, 3 and 3.1.
use Rattle.std.specs.Prelude.{◌≡◌, ◌<◌, ◌⊎◌, ℕ, suc, ⊤, List, [], ◌∷◌, ◌++◌, length}
use Rattle.std.specs.List.{AllByRecursion}
use Rattle.px_xmp_marks.specs.Reading.{Named}
use Rattle.px_xmp_markup.specs.Kinds.{Kind, Opening, Closing, Alone, Misc, Data, AreKinds}

-- content (production 43): nothing; or a mark that is no tag, an empty element, or an element with its content; and what follows
pub data Content : Type 0 where
  Nothing : Content
  AfterMisc : Content → Content
  AfterData : Content → Content
  AfterAlone : (name : Named) → Content → Content
  AfterElement : (name : Named) → (inner : Content) → Content → Content

-- the marks of content: the end tag of an element has the name of its start tag (3, Element Type Match)
abbrev pub marks : Content → List Kind
marks Nothing = []
marks (AfterMisc more) = Misc ∷ marks more
marks (AfterData more) = Data ∷ marks more
marks (AfterAlone n more) = Alone n ∷ marks more
marks (AfterElement n inner more) = Opening n ∷ (marks inner ++ Closing n ∷ marks more)

-- a limit of this reader: no element is inside 100 others
abbrev pub limit : ℕ
limit = 100

-- content inside k elements is within the limit
abbrev pub IsShallow : ℕ → Content → Type 0
IsShallow k Nothing = ⊤
IsShallow k (AfterMisc more) = IsShallow k more
IsShallow k (AfterData more) = IsShallow k more
IsShallow k (AfterAlone n more) = (k < limit) × IsShallow k more
IsShallow k (AfterElement n inner more) = (k < limit) × IsShallow (suc k) inner × IsShallow k more

-- an element (production 39) that is inside no other
abbrev pub IsRoot : List Kind → Type 0
IsRoot ks =
    ((n : Named) × (ks ≡ Alone n ∷ []))
    ⊎ ((n : Named) × (inner : Content) × IsShallow 1 inner × (ks ≡ Opening n ∷ (marks inner ++ Closing n ∷ [])))

-- Misc*
abbrev pub AreMisc : List Kind → Type 0
AreMisc ks = AllByRecursion (λ k. k ≡ Misc) ks

-- Misc*, one element, Misc* (productions 1 and 22)
abbrev pub AreRooted : List Kind → Type 0
AreRooted ks = (before root after : List Kind) × AreMisc before × IsRoot root × AreMisc after × (ks ≡ before ++ (root ++ after))

-- Octets are marks of one root element, with what may precede and follow it.
abbrev pub IsTree : List ℕ → Type 0
IsTree x = (ks : List Kind) × AreKinds ks x [] × AreRooted ks

-- ---- the beginnings

-- the beginning of a tree, in which these elements have begun and not ended, the innermost first
abbrev pub AreOpen : List Named → List Kind → Type 0
AreOpen [] ks = AreMisc ks
AreOpen (n ∷ outer) ks =
    (before : List Kind) × (inner : Content) × AreOpen outer before × (length outer < limit) × IsShallow (suc (length outer)) inner
    × (ks ≡ before ++ Opening n ∷ marks inner)

-- a place: these elements are open, the innermost first, or none, before the root; or the root has ended
pub data Place : Type 0 where
  Among : (open_names : List Named) → Place
  After : Place

-- the marks ks lead to this place
abbrev pub LeadTo : Place → List Kind → Type 0
LeadTo (Among names) ks = AreOpen names ks
LeadTo After ks = AreRooted ks
