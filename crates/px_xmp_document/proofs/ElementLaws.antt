-- The first fault of elements: those with one are wrong, and have no other.
use Rattle.std.proofs.Common.{◌≡◌, ℕ, List, ap}
use Rattle.px_xmp_markup.specs.Laws.{OneTreeFault, OneAttributeFault}
use Rattle.px_xmp_document.specs.declared.faults.Cause.{Cause}
use Rattle.px_xmp_document.specs.declared.faults.Cause.TheVariants.{NoCharacter, OtherEncoding, Nesting, Attributes, Spaces}
use Rattle.px_xmp_document.specs.Elements.{AreElements, IsElementFault}
use Rattle.px_xmp_document.specs.Laws.{OneElementFault, OneSpaceFault}

no_elements : OneTreeFault → OneAttributeFault → OneSpaceFault → (x : List ℕ) (c : Cause) (n : ℕ) → IsElementFault x c n → AreElements x → ⊥
no_elements tree attributes spaces x NoCharacter n h e = h
no_elements tree attributes spaces x OtherEncoding n h e = h
no_elements tree attributes spaces x (Nesting c) n h e = (tree x c n h).0 e.0
no_elements tree attributes spaces x (Attributes c) n h e = (attributes x c n h.1).0 e.1
no_elements tree attributes spaces x (Spaces c) n h e = (spaces x c n h.2).0 e.2

other_fault : OneTreeFault → OneAttributeFault → OneSpaceFault → (x : List ℕ) (c d : Cause) (n m : ℕ) → IsElementFault x c n
    → IsElementFault x d m → (c ≡ d) × (n ≡ m)
other_fault tree attributes spaces x NoCharacter d n m h g = absurd h
other_fault tree attributes spaces x OtherEncoding d n m h g = absurd h
other_fault tree attributes spaces x (Nesting c) NoCharacter n m h g = absurd g
other_fault tree attributes spaces x (Nesting c) OtherEncoding n m h g = absurd g
other_fault tree attributes spaces x (Nesting c) (Nesting d) n m h g = let one = (tree x c n h).1 d m g in (ap Nesting one.0, one.1)
other_fault tree attributes spaces x (Nesting c) (Attributes d) n m h g = absurd ((tree x c n h).0 g.0)
other_fault tree attributes spaces x (Nesting c) (Spaces d) n m h g = absurd ((tree x c n h).0 g.0)
other_fault tree attributes spaces x (Attributes c) NoCharacter n m h g = absurd g
other_fault tree attributes spaces x (Attributes c) OtherEncoding n m h g = absurd g
other_fault tree attributes spaces x (Attributes c) (Nesting d) n m h g = absurd ((tree x d m g).0 h.0)
other_fault tree attributes spaces x (Attributes c) (Attributes d) n m h g =
    let one = (attributes x c n h.1).1 d m g.1 in (ap Attributes one.0, one.1)
other_fault tree attributes spaces x (Attributes c) (Spaces d) n m h g = absurd ((attributes x c n h.1).0 g.1)
other_fault tree attributes spaces x (Spaces c) NoCharacter n m h g = absurd g
other_fault tree attributes spaces x (Spaces c) OtherEncoding n m h g = absurd g
other_fault tree attributes spaces x (Spaces c) (Nesting d) n m h g = absurd ((tree x d m g).0 h.0)
other_fault tree attributes spaces x (Spaces c) (Attributes d) n m h g = absurd ((attributes x d m g.1).0 h.1)
other_fault tree attributes spaces x (Spaces c) (Spaces d) n m h g = let one = (spaces x c n h.2).1 d m g.2 in (ap Spaces one.0, one.1)

pub one_element_fault : OneTreeFault → OneAttributeFault → OneSpaceFault → OneElementFault
one_element_fault tree attributes spaces x c n h =
    (no_elements tree attributes spaces x c n h, λ d m g. other_fault tree attributes spaces x c d n m h g)
