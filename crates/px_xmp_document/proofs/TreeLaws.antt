-- A tree is marks in a row.
use Rattle.std.proofs.Common.{ℕ, false, true, List, [], ◌∷◌, refl, inl, inr}
use Rattle.px_xmp_marks.specs.Marks.{IsMark, AreMarks, RowOrFault}
use Rattle.px_xmp_markup.specs.Kinds.{Kind, Opening, Closing, Alone, Misc, Data, IsKind, AreKinds}
use Rattle.px_xmp_markup.specs.declared.faults.AttributeCause.TheVariants.{NoMark, AttributeTwice}
use Rattle.px_xmp_document.specs.Laws.{AttributesAreTwice}

pub kind_mark : (k : Kind) (x y : List ℕ) → IsKind k x y → IsMark x y
kind_mark (Opening n) x y (a, i) = inl (n, a, false, i)
kind_mark (Closing n) x y i = inr (inl (n, i))
kind_mark (Alone n) x y (a, i) = inl (n, a, true, i)
kind_mark Misc x y (inl i) = inr (inr (inl i))
kind_mark Misc x y (inr (inl i)) = inr (inr (inr (inr (inl i))))
kind_mark Misc x y (inr (inr (i, s, e))) = inr (inr (inr (inr (inr (i, e)))))
kind_mark Data x y (inl i) = inr (inr (inr (inl i)))
kind_mark Data x y (inr (i, s, e)) = inr (inr (inr (inr (inr (i, e)))))

marks_of_kinds : (ks : List Kind) (x y : List ℕ) → AreKinds ks x y → (ms : List (List ℕ)) × AreMarks ms x y
marks_of_kinds [] x y e = ([], e)
marks_of_kinds (k ∷ ks) x y (m, rest, i, w, more) =
    let (ms, others) = marks_of_kinds ks rest y more in (m ∷ ms, (rest, kind_mark k m rest i, w, others))

pub attributes_are_twice : RowOrFault → AttributesAreTwice
attributes_are_twice law x AttributeTwice n t h = refl
attributes_are_twice law x NoMark n (ks, a, r) h =
    absurd ((law x n (record { within = h.within; marks = h.marks; before = h.before; none = h.wrong })).0 (marks_of_kinds ks x [] a))
