-- The checks of a block, in order, and the fault that each failed check means.
use Rattle.std.specs.Prelude.{◌≡◌, ◌⊎◌, ◌<◌, ◌≤◌, ◌+◌, ℕ, zero, suc, nat_le, true, false, if◌then◌else◌, Some, List, [], ◌∷◌, ◌++◌, length}
use Rattle.std.specs.Prelude.{drop}
use Rattle.px_bytes.specs.declared.Cause.{Cause}
use Rattle.px_bytes.specs.declared.Cause.TheVariants.{TooLong, NoMarker, LengthForm, DataSetCut}
use Rattle.px_bytes.specs.Checks.{Check, check, first_false}
use Rattle.px_bytes.specs.Parts.{limit}
use Rattle.px_iim.specs.DataSet.{DataSet, top_bit, Encodes}
use Rattle.px_iim.specs.Record.{form, extra, size, is_marked, has_form, is_dataset, is_end}

-- the checks of a DataSet at offset p, whose bytes and those after it are x
abbrev pub dataset_checks : ℕ → List ℕ → List Check
dataset_checks p x =
    check NoMarker p (is_marked x)
    ∷ check DataSetCut p (nat_le 5 (length x))
    ∷ check LengthForm p (has_form x)
    ∷ check DataSetCut p (nat_le (5 + extra x) (length x))
    ∷ check DataSetCut p (nat_le (size x) (length x))
    ∷ []

-- the checks of at most n DataSets from that offset on
unfoldable pub checks_from : ℕ → ℕ → List ℕ → List Check
checks_from zero p x = []
checks_from (suc n) p x =
    dataset_checks p x
    ++ (if is_dataset x then (if is_end (drop (size x) x) then [] else checks_from n (p + size x) (drop (size x) x)) else [])

-- the checks of a block; it has no more DataSets than bytes, and an empty one is checked for its first DataSet
unfoldable pub iim_checks : List ℕ → List Check
iim_checks x = check TooLong limit (nat_le (length x) limit) ∷ checks_from (length x + 1) 0 x

-- the first fault
abbrev pub FirstIimFault : List ℕ → Cause → ℕ → Type 0
FirstIimFault x cause place = first_false (iim_checks x) ≡ Some (cause, place)

-- ---- the faults of a block, cause by cause

-- after some DataSets, perhaps none, the bytes `rest` are at offset p
pub record SplitAt (x : List ℕ) (sequence : List DataSet) (rest : List ℕ) (p : ℕ) : Type 0 where
  pub front : List ℕ
  pub whole : x ≡ front ++ rest
  pub encodes : Encodes sequence front
  pub place : p ≡ length front

-- the block has a fault of this cause at offset p
abbrev pub IimFault : List ℕ → Cause → ℕ → Type 0
IimFault x TooLong p = (p ≡ limit) × (limit < length x)
-- no marker where a DataSet must begin: the first, and any other unless the block ends
IimFault x NoMarker p =
    (sequence : List DataSet) × (rest : List ℕ) × SplitAt x sequence rest p × ((sequence ≡ []) ⊎ (is_end rest ≡ false)) × (is_marked
    rest ≡ false)
-- an extended length of no bytes or of more than four
IimFault x LengthForm p =
    (sequence : List DataSet) × (rest : List ℕ) × SplitAt x sequence rest p × (is_marked rest ≡ true) × (5 ≤ length rest) × (top_bit ≤ form
    rest) × ((extra rest ≡ 0) ⊎ (4 < extra rest))
-- the DataSet passes the end: its five bytes, its length, or its data
IimFault x DataSetCut p = (sequence : List DataSet) × (rest : List ℕ) × SplitAt x sequence rest p × (is_marked rest ≡ true)
    × ((length rest < 5) ⊎ ((has_form rest ≡ true) × ((length rest < 5 + extra rest) ⊎ (length rest < size rest))))
IimFault x _ p = ⊥
