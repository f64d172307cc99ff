-- How a mark leads from one place to the next.
use Rattle.std.specs.Prelude.{◌≡◌, ◌<◌, List, [], ◌∷◌, ◌++◌, length}
use Rattle.px_xmp_marks.specs.Reading.{Named}
use Rattle.px_xmp_markup.specs.Kinds.{Kind, Opening, Closing, Alone, Misc, Data}
use Rattle.px_xmp_markup.specs.Nesting.{limit, Place, Among, After, LeadTo}

-- the place after an element that was inside these
abbrev pub ended : List Named → Place
ended [] = After
ended (m ∷ outer) = Among (m ∷ outer)

-- a mark of this kind leads from the place p to q
abbrev pub Step : Kind → Place → Place → Type 0
Step (Opening n) (Among names) q = (length names < limit) × (q ≡ Among (n ∷ names))
Step (Opening n) After q = ⊥
Step (Closing n) (Among []) q = ⊥
Step (Closing n) (Among (m ∷ outer)) q = (n ≡ m) × (q ≡ ended outer)
Step (Closing n) After q = ⊥
Step (Alone n) (Among names) q = (length names < limit) × (q ≡ ended names)
Step (Alone n) After q = ⊥
Step Misc p q = q ≡ p
Step Data (Among []) q = ⊥
Step Data (Among (m ∷ outer)) q = q ≡ Among (m ∷ outer)
Step Data After q = ⊥

-- A mark leads on from the place to which others lead.
abbrev pub StepsLead : Type 0
StepsLead = (k : Kind) (p q : Place) (ks : List Kind) → LeadTo p ks → Step k p q → LeadTo q (ks ++ k ∷ [])
